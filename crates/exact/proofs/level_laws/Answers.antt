use Rattle.exact.proofs.Averages.{levels}
use Rattle.exact.proofs.level_laws.Goals as goal

pub returns : goal.returns
returns c = record { level_values_stay_as_they_are = levels }
