-- Each turn takes the next point, and the last strip ends the window.
use Rattle.std.proofs.Common.{arith}
use Rattle.delivery.specs.Limits.{Tame}
use Rattle.delivery.proofs.Courses.{holds_at}
use Rattle.delivery.proofs.Sounds.{usable}
use Rattle.delivery.proofs.Walk.{not_yet, ahead}
use Rattle.delivery.proofs.Turning.{start, here, on, spans, spans_end, first, last, sum_more, again, sum_last, sum_end}
use Rattle.delivery.proofs.windows.area.Goals as goal

pub loop-sample-init : goal.loop-sample-init
loop-sample-init g c = start c.requires.0.rises (omega arith) (usable c.args.direction c.args.trace.samples.now c.args.trace.sound) c.requires.1

pub compensated-v-requires : goal.compensated-v-requires
compensated-v-requires g c = holds_at c.args.direction c.args.trace.samples.now c.loop-sample.sample-index c.loop-sample-test.true _ c.turned-point.result c.turned-point.ensures Tame (usable c.args.direction c.args.trace.samples.now c.args.trace.sound).tame

pub loop-sample-preserved-then-point-window : goal.loop-sample-preserved-then-point-window
loop-sample-preserved-then-point-window g c = let h = here c.loop-sample.invariant c.loop-sample-test.true _ c.turned-point.ensures c.compensated-v.ensures.is c.compensated-v.ensures.within in on c.loop-sample.invariant (not_yet h c.if-point-window.true)

pub straight_half_up-v0-requires : goal.straight_half_up-v0-requires
straight_half_up-v0-requires g c = let h = here c.loop-sample.invariant c.loop-sample-test.true _ c.turned-point.ensures c.compensated-v.ensures.is c.compensated-v.ensures.within in spans h c.if-point-window.false c.max-t0.ensures

-- ---- the window ends by this point
pub straight_half_up-last-requires : goal.straight_half_up-last-requires
straight_half_up-last-requires g c = let h = here c.loop-sample.invariant c.loop-sample-test.true _ c.turned-point.ensures c.compensated-v.ensures.is c.compensated-v.ensures.within in spans_end h c.if-point-window.false c.max-t0.ensures c.if-window-point.true

pub strip-requires : goal.strip-requires
strip-requires g c = let h = here c.loop-sample.invariant c.loop-sample-test.true _ c.turned-point.ensures c.compensated-v.ensures.is c.compensated-v.ensures.within in let y = c.straight_half_up-v0.ensures in let x = c.straight_half_up-last.ensures in
    ((first h c.if-point-window.false c.max-t0.ensures y.is y.within).within, (last h c.if-point-window.false c.max-t0.ensures y.is y.within c.if-window-point.true x.is x.within).within)

pub overflow_add-result : goal.overflow_add-result
overflow_add-result g c = let h = here c.loop-sample.invariant c.loop-sample-test.true _ c.turned-point.ensures c.compensated-v.ensures.is c.compensated-v.ensures.within in let y = c.straight_half_up-v0.ensures in let x = c.straight_half_up-last.ensures in
    (sum_last h c.if-point-window.false c.max-t0.ensures y.is y.within c.if-window-point.true x.is x.within c.loop-sample.invariant.small c.strip.ensures).fits

pub returns-then-window-point : goal.returns-then-window-point
returns-then-window-point g c = let h = here c.loop-sample.invariant c.loop-sample-test.true _ c.turned-point.ensures c.compensated-v.ensures.is c.compensated-v.ensures.within in let y = c.straight_half_up-v0.ensures in let x = c.straight_half_up-last.ensures in
    let s = sum_last h c.if-point-window.false c.max-t0.ensures y.is y.within c.if-window-point.true x.is x.within c.loop-sample.invariant.small c.strip.ensures in record { is = s.is; within = s.within }

-- ---- the window goes on
pub overflow_sub-point : goal.overflow_sub-point
overflow_sub-point g c = let h = here c.loop-sample.invariant c.loop-sample-test.true _ c.turned-point.ensures c.compensated-v.ensures.is c.compensated-v.ensures.within in omega (arith, ahead h c.if-point-window.false c.max-t0.ensures)

pub strip-sum-requires : goal.strip-sum-requires
strip-sum-requires g c = let h = here c.loop-sample.invariant c.loop-sample-test.true _ c.turned-point.ensures c.compensated-v.ensures.is c.compensated-v.ensures.within in let y = c.straight_half_up-v0.ensures in ((first h c.if-point-window.false c.max-t0.ensures y.is y.within).within, h.within)

pub overflow_add-sum : goal.overflow_add-sum
overflow_add-sum g c = let h = here c.loop-sample.invariant c.loop-sample-test.true _ c.turned-point.ensures c.compensated-v.ensures.is c.compensated-v.ensures.within in let y = c.straight_half_up-v0.ensures in
    (sum_more h c.if-point-window.false c.max-t0.ensures y.is y.within c.loop-sample.invariant.small c.if-window-point.false c.strip-sum.ensures).fits

pub loop-sample-preserved : goal.loop-sample-preserved
loop-sample-preserved g c = let h = here c.loop-sample.invariant c.loop-sample-test.true _ c.turned-point.ensures c.compensated-v.ensures.is c.compensated-v.ensures.within in let y = c.straight_half_up-v0.ensures in
    on c.loop-sample.invariant (again h c.if-point-window.false c.max-t0.ensures y.is y.within c.loop-sample.invariant.small c.if-window-point.false c.strip-sum.ensures)

-- ---- after the last point

pub strip-requires-2 : goal.strip-requires-2
strip-requires-2 g c = let w = c.loop-sample.invariant.walked.onto.within in (w, w)

pub overflow_add-result-2 : goal.overflow_add-result-2
overflow_add-result-2 g c = (sum_end c.loop-sample.invariant c.loop-sample-test.false c.max.ensures c.strip-2.ensures).fits

pub returns : goal.returns
returns g c = let s = sum_end c.loop-sample.invariant c.loop-sample-test.false c.max.ensures c.strip-2.ensures in record { is = s.is; within = s.within }
