-- Response rules of the tests' own.
use Rattle.std.specs.Prelude.{ℕ, ◌+◌, min}
use Rattle.std.proofs.Common.{lit≤}
use Rattle.std.proofs.Math.Nat.{le-min, le-add_right, min-le_right}
use Rattle.response.specs.declared.weighing.Weight.{Weight}
use Rattle.response.specs.Weights.{Factor}

-- a weight as a factor
abbrev pub same : Weight → Factor
same w = record { n = w.n; d = w.d; above = w.bottom.0; least = w.top.0; most = w.top.1 }

-- 1 at the disturbance and 1/100 more with each ms, but at most 3
abbrev pub growing : ℕ → Factor
growing ms = record { n = min (100 + ms) 300; d = 100; above = lit≤ tt; least = le-min (le-add_right 100 ms) (lit≤ tt); most = min-le_right (100 + ms) 300 }
