use Rattle.response.proofs.WorkedWeights.{worked}
use Rattle.response.proofs.worked.worked_weights.Goals as goal

pub returns : goal.returns
returns c = record { worked_weights_come_out_as_listed = worked }
