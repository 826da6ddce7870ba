-- Each turn takes the next point; the mean is over those that count.
use Rattle.std.proofs.Common.{refl, ap, arith}
use Rattle.exact.specs.Fractions.{whole}
use Rattle.delivery.specs.Limits.{Tame}
use Rattle.delivery.proofs.Courses.{opens, passed_all, holds_at}
use Rattle.delivery.proofs.Basing.{start, passed, this, again, mean_held, some_kept}
use Rattle.delivery.proofs.Grounds.{at_disturbance, at_each}
use Rattle.delivery.proofs.Sounds.{usable}
use Rattle.delivery.proofs.base.basis.Goals.{then-counts, else-counts}
use Rattle.delivery.proofs.base.basis.Goals as goal

pub loop-sample-init : goal.loop-sample-init
loop-sample-init c = start (at_each c.args.targets.all.now c.args.targets.rising _ _ c.requires.reached)

pub base_push-sum-requires : goal.base_push-sum-requires
base_push-sum-requires c =
    let xs = c.args.footing.trace.samples.now in
    let d = c.args.footing.disturbance.direction in
    let next = opens d xs c.loop-sample.sample-index c.loop-sample-test.true _ c.turned-point.result c.turned-point.ensures in
    record {
      small = (holds_at d xs c.loop-sample.sample-index c.loop-sample-test.true _ c.turned-point.result c.turned-point.ensures Tame (usable d xs c.args.footing.trace.sound).tame).push_within;
      begins = (at_disturbance c.args.targets.all.now c.args.targets.rising _ _ c.requires.reached, this c.loop-sample.invariant next c.if-counts.ensures);
    }

pub loop-sample-preserved : goal.loop-sample-preserved
loop-sample-preserved c =
    let next = opens c.args.footing.disturbance.direction c.args.footing.trace.samples.now c.loop-sample.sample-index c.loop-sample-test.true _ c.turned-point.result c.turned-point.ensures in
    elim c.if-counts.branch [
      | then-counts w ↦ rw (w.sum-is, w.count-is) (again c.loop-sample.invariant next w.if-counts.ensures w.base_push-sum.ensures.is w.base_push-sum.ensures.within (omega (arith, c.loop-sample.invariant.few)))
      | else-counts w ↦ rw (w.sum-is, w.count-is) (passed c.loop-sample.invariant next w.if-counts.ensures)
    ]

pub invariant_of-result : goal.invariant_of-result
invariant_of-result c =
    let r = mean_held c.loop-sample.invariant (passed_all c.args.footing.disturbance.direction c.args.footing.trace.samples.now _ c.loop-sample-test.false) (some_kept _ c.requires.some) c.half_up.ensures in
    record { within = r.within }

pub returns : goal.returns
returns c =
    let r = mean_held c.loop-sample.invariant (passed_all c.args.footing.disturbance.direction c.args.footing.trace.samples.now _ c.loop-sample-test.false) (some_kept _ c.requires.some) c.half_up.ensures in
    record { time = refl; base = ap whole r.is }
