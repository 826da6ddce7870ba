use Rattle.figure.proofs.RecordA.{worked_deliveries_lem}
use Rattle.figure.proofs.worked.worked_deliveries.Goals as goal

pub returns : goal.returns
returns c = record { the_steps_give_the_worked_watts = worked_deliveries_lem }
