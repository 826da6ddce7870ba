use Rattle.std.proofs.Common.{Some, None, arith, rules}
use Rattle.std.proofs.lemmas.Bool.{some_since}
use Rattle.std.proofs.lemmas.Bool.Decides.{not_from_Decides}
use Rattle.disturbance.specs.declared.disturbance.Disturbance.{Disturbance}
use Rattle.disturbance.specs.Disturbance.{Disturbed, Undisturbed, disturbance_of}
use Rattle.disturbance.proofs.Leaving.{way, leaving_some, leaving_from}
use Rattle.disturbance.proofs.Found.{disturbed_at, answers_unique, worked_out}
use Rattle.disturbance.proofs.disturbance.find_disturbance.Goals as goal

pub unwrap-direction-requires : goal.unwrap-direction-requires
unwrap-direction-requires c = some_since _ _ _ c.side.ensures (not_from_Decides _ c.is_inside-in-loop-k.ensures (search rules))

pub unwrap-time-requires : goal.unwrap-time-requires
unwrap-time-requires c =
    let w = way c.args.trace.samples.now c.args.trace.sound c.loop-k.k c.unwrap-direction.result (omega arith) c.loop-k-test.true (c.is_inside.ensures.0 (search rules)) (search rules) in
    leaving_some _ _ _ w _ c.first_past_edge.ensures

pub returns-in-loop-k : goal.returns-in-loop-k
returns-in-loop-k c =
    let xs = c.args.trace.samples.now in
    let w = way xs c.args.trace.sound c.loop-k.k c.unwrap-direction.result (omega arith) c.loop-k-test.true (c.is_inside.ensures.0 (search rules)) (search rules) in
    let d : Disturbance = record { time = c.unwrap-time.result; direction = c.unwrap-direction.result } in
    let h : Disturbed xs d = disturbed_at xs c.args.trace.sound c.loop-k.k d (omega arith) c.loop-k-test.true c.loop-k.invariant (record { inside = w.inside; side = w.beyond; line = leaving_from _ _ _ w _ _ c.unwrap-time.ensures c.first_past_edge.ensures }) in
    record { first_departure_from_the_band_or_none = h; as_computed_from_the_samples = answers_unique xs (Some d) (disturbance_of xs) h (worked_out xs c.args.trace.sound) }

pub returns : goal.returns
returns c =
    let xs = c.args.trace.samples.now in
    let h : Undisturbed xs = λ j l. c.loop-k.invariant j (omega (arith, l.there)) l in
    record { first_departure_from_the_band_or_none = h; as_computed_from_the_samples = answers_unique xs None (disturbance_of xs) h (worked_out xs c.args.trace.sound) }
