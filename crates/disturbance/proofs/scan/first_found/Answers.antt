use Rattle.disturbance.proofs.Stretches.{turn, none_more}
use Rattle.disturbance.proofs.scan.first_found.Goals as goal

pub returns-in-Some-find : goal.returns-in-Some-find
returns-in-Some-find g c =
    let p = (turn c.args.trace.samples.now _ _ _ _ c.in-Some.is c.next.ensures.steps c.loop-pair.invariant.0).found in
    record { place = _; later = p.later; there = p.there; found = record { stretch = _; before = p.before; after = p.after; found = c.in-Some-find.ensures }; earlier = c.loop-pair.invariant.1 }

pub loop-pair-preserved : goal.loop-pair-preserved
loop-pair-preserved g c =
    let t = turn c.args.trace.samples.now _ _ _ _ c.in-Some.is c.next.ensures.steps c.loop-pair.invariant.0 in
    (t.left, none_more _ _ t.next c.loop-pair.invariant.1 (record { stretch = _; before = t.found.before; after = t.found.after; found = c.in_default.ensures }))
