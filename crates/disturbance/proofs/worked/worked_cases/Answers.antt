use Rattle.disturbance.proofs.Cases.{worked}
use Rattle.disturbance.proofs.worked.worked_cases.Goals as goal

pub returns : goal.returns
returns c = record { worked_cases_come_out_as_listed = worked }
