use Rattle.exact.proofs.EvenChanges.{even_changes}
use Rattle.exact.proofs.even_laws.Goals as goal

pub returns : goal.returns
returns c = record { even_changes_average_to_their_middle_and_means_join = even_changes }
