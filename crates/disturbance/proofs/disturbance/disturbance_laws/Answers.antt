use Rattle.disturbance.proofs.Found.{disturbance_laws_lem}
use Rattle.disturbance.proofs.disturbance.disturbance_laws.Goals as goal

pub returns : goal.returns
returns c = record { one_disturbance_and_it_can_be_worked_out = disturbance_laws_lem }
