-- The loop walks along the compensated response.
use Rattle.delivery.proofs.Turning.{Pace}
use Rattle.delivery.proofs.windows.area.Given as goal

abbrev pub invariant-loop-sample : goal.invariant-loop-sample
invariant-loop-sample g l = Pace (g.R.ResponseRule.weighs l.rule) l.basis l.direction l.trace.samples.now l.window l.sample-index l.t1 l.v1 l.sum
