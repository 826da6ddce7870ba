-- The frequency's literal is that float.
use Rattle.std.proofs.Common.{refl}
use lib.Ieee.{of_bits}
use Rattle.examples.proofs.ties.reading_of.Goals as goal

pub returns : goal.returns
unfolding of_bits
returns c = refl
