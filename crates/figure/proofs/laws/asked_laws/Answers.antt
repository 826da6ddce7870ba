use Rattle.figure.proofs.AskedMeanings.{asked_laws_lem}
use Rattle.figure.proofs.laws.asked_laws.Goals as goal

pub returns : goal.returns
returns c = record { the_figure_is_that_of_what_is_asked = asked_laws_lem }
