-- Each turn takes the next target.
use Rattle.std.proofs.Common.{ap, ◌∙◌, arith}
use Rattle.std.proofs.lemmas.List.{drop_more}
use Rattle.exact.specs.Fractions.{whole}
use Rattle.exact.specs.Rounding.{half_up}
use Rattle.exact.proofs.Limits.{within_more}
use Rattle.delivery.proofs.Held.{held}
use Rattle.delivery.proofs.Reach.{turn, found, level}
use Rattle.delivery.proofs.Basing.{aimed}
use Rattle.delivery.specs.Limits.{widest_height}
use Rattle.delivery.proofs.base.trajectory.Goals as goal

pub straight_half_up-requires : goal.straight_half_up-requires
straight_half_up-requires c = let i = c.loop-target.invariant in
    let v = aimed c.args.footing.disturbance.direction c.args.targets.all.now c.loop-target.target-index _ c.loop-target-test.true c.args.targets.aimed c.push.ensures.power_against_the_disturbance c.in_hundredths-v.ensures in
    (omega (arith, i.past), (i.past, (omega arith, (within_more (omega arith) i.within, within_more (omega arith) v.within))))

pub returns-then-time-target : goal.returns-then-time-target
returns-then-time-target c =
    let v = aimed c.args.footing.disturbance.direction c.args.targets.all.now c.loop-target.target-index _ c.loop-target-test.true c.args.targets.aimed c.push.ensures.power_against_the_disturbance c.in_hundredths-v.ensures in
    let f = found (λ g. g.time) _ c.args.targets.all.now c.args.time _ _ _ c.loop-target.invariant _ (drop_more c.args.targets.all.now c.loop-target.target-index _ c.loop-target-test.true) _ v.is c.if-time-target.true in
    let r = held {A = widest_height} (omega arith) c.straight_half_up.ensures.is (c.straight_half_up.ensures.within widest_height c.loop-target.invariant.within v.within) in
    record { is = ap whole (r.is ∙ ap half_up f); within = r.within }

pub loop-target-preserved : goal.loop-target-preserved
loop-target-preserved c =
    let v = aimed c.args.footing.disturbance.direction c.args.targets.all.now c.loop-target.target-index _ c.loop-target-test.true c.args.targets.aimed c.push.ensures.power_against_the_disturbance c.in_hundredths-v.ensures in
    turn (λ g. g.time) _ c.args.targets.all.now c.args.time _ _ _ c.loop-target.invariant _ (drop_more c.args.targets.all.now c.loop-target.target-index _ c.loop-target-test.true) _ v.is c.if-time-target.false v.within

pub returns : goal.returns
returns c = record { is = ap whole (level (λ g. g.time) _ c.args.targets.all.now c.args.time _ _ _ c.loop-target.invariant c.loop-target-test.false); within = c.loop-target.invariant.within }
