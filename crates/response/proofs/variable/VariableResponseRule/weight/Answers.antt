use Rattle.response.proofs.VariableRule.{weighs_right}
use Rattle.response.proofs.variable.VariableResponseRule.weight.Goals as goal

pub returns-clause-weight_as_the_rule_says : goal.returns-clause-weight_as_the_rule_says
returns-clause-weight_as_the_rule_says c = weighs_right c.args.self.now _ _ _ c.factor.ensures
