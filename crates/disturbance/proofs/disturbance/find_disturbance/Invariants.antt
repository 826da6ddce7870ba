use Rattle.std.proofs.Common.{ℕ, ◌<◌}
use Rattle.disturbance.specs.Disturbance.{Leaves}
use Rattle.disturbance.proofs.disturbance.find_disturbance.Given as goal

abbrev pub invariant-loop-k : goal.invariant-loop-k
invariant-loop-k l = (j : ℕ) → j < l.k → Leaves l.samples j → ⊥
