-- The loop stands on the line through the targets.
use Rattle.std.proofs.Common.{pos, ◌*ℤ◌}
use Rattle.disturbance.specs.Direction.{push}
use Rattle.delivery.proofs.Reach.{Reached}
use Rattle.delivery.specs.Limits.{widest_height}
use Rattle.delivery.proofs.base.trajectory.Given as goal

abbrev pub invariant-loop-target : goal.invariant-loop-target
invariant-loop-target l = Reached widest_height (λ g. g.time) (λ g. push l.footing.disturbance.direction g.power *ℤ pos 100) l.targets.all.now l.time l.target-index l.t0 l.v0
