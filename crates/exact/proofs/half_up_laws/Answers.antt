use Rattle.exact.proofs.Rounding.{rounds}
use Rattle.exact.proofs.half_up_laws.Goals as goal

pub returns : goal.returns
returns c = record { half_up_is_one_number_and_moves_with_wholes = rounds }
