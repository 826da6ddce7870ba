use Rattle.disturbance.proofs.Images.{turning_laws_lem}
use Rattle.disturbance.proofs.turning.turning_laws.Goals as goal

pub returns : goal.returns
returns c = record { low_and_high_alike = turning_laws_lem }
