-- The loop adds up the pushes of the base points.
use Rattle.delivery.specs.Footings.{case_on}
use Rattle.delivery.proofs.Basing.{Added}
use Rattle.delivery.proofs.base.basis.Given as goal

abbrev pub invariant-loop-sample : goal.invariant-loop-sample
invariant-loop-sample l = Added (case_on l.footing l.targets.all.now) l.sample-index l.count l.sum
