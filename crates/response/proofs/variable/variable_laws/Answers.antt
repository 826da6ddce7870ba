use Rattle.response.proofs.VariableRule.{laws}
use Rattle.response.proofs.variable.variable_laws.Goals as goal

pub returns : goal.returns
returns c = record { one_ramp_dip_and_one_weight_at_each_dip = laws }
