-- Turn by turn, up to the last call or to one that is not offered.
use Rattle.std.proofs.Common.{◌<◌, min, length, arith, ◌∙◌, sym}
use Rattle.calls.specs.Calls.{meaning_of}
use Rattle.calls.proofs.Running.{begun, turned, finished, stopped, call_at, length_taken}
use Rattle.calls.proofs.Once.{ran_once}
use Rattle.calls.proofs.Promising.{every_answer, every_delivery}
use Rattle.calls.proofs.run.run.Goals as goal

pub loop-place-init : goal.loop-place-init
loop-place-init g c = begun _ _ _ c.new.result (c.new.ensures.begins_every_history c.args.table.now)

pub loop-place-preserved : goal.loop-place-preserved
loop-place-preserved g c =
    let call = meaning_of g.R.Recording.meaning g.P.ResponseRule.triggers g.P.ResponseRule.weighs in
    let lt : c.loop-place.place < min (length c.args.calls.now) (length c.args.answers.now) = omega (arith, c.min-count.ensures, c.loop-place-test.true) in
    turned _ _ _ c.loop-place.place c.loop-place.state c.loop-place.table c.loop-place.answers c.loop-place.invariant (call c.index-calls-place.result)
    (call_at call c.args.calls.now (length c.args.answers.now) c.loop-place.place c.index-calls-place.result lt c.index-calls-place.is) (omega (arith, lt)) c.take-turn.result c.take-turn.new.table c.take-turn.ensures.answers_as_the_accepted_record c.in-Some.answer c.in-Some.is

pub returns-in_default : goal.returns-in_default
returns-in_default g c =
    let call = meaning_of g.R.Recording.meaning g.P.ResponseRule.triggers g.P.ResponseRule.weighs in
    let lt : c.loop-place.place < min (length c.args.calls.now) (length c.args.answers.now) = omega (arith, c.min-count.ensures, c.loop-place-test.true) in
    let h = stopped _ _ _ c.loop-place.place c.loop-place.state c.loop-place.table c.loop-place.answers c.loop-place.invariant (call c.index-calls-place.result)
    (call_at call c.args.calls.now (length c.args.answers.now) c.loop-place.place c.index-calls-place.result lt c.index-calls-place.is) (omega (arith, lt, length_taken call c.args.calls.now (length c.args.answers.now))) c.take-turn.result c.take-turn.new.table c.take-turn.ensures.answers_as_the_accepted_record c.in_default.is in
    record { answers_as_the_accepted_record = h; every_answer_is_that_of_its_record = every_answer _ _ _ _ _ _ h; every_delivery_is_that_of_its_record = every_delivery _ _ _ _ _ _ h; no_other_answer = λ s left filled k. ran_once _ _ _ s _ left _ filled _ k h }

pub returns : goal.returns
returns g c =
    let call = meaning_of g.R.Recording.meaning g.P.ResponseRule.triggers g.P.ResponseRule.weighs in
    let h = finished _ _ _ c.loop-place.place c.loop-place.state c.loop-place.table c.loop-place.answers c.loop-place.invariant c.min-count.result (omega (arith, c.loop-place-test.false, c.loop-place.auto.place-end)) (c.min-count.ensures ∙ sym (length_taken call c.args.calls.now (length c.args.answers.now))) in
    record { answers_as_the_accepted_record = h; every_answer_is_that_of_its_record = every_answer _ _ _ _ _ _ h; every_delivery_is_that_of_its_record = every_delivery _ _ _ _ _ _ h; no_other_answer = λ s left filled k. ran_once _ _ _ s _ left _ filled _ k h }
