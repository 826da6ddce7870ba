use Rattle.examples.proofs.Joint.{worked_examples_lem}
use Rattle.examples.proofs.worked.worked_examples.Goals as goal

pub returns : goal.returns
returns c = record { the_rules_give_the_worked_numbers = worked_examples_lem }
