-- Line by line, up to the last.
use Rattle.std.proofs.Common.{◌<◌, length, arith, ap, ◌++◌, ◌∙◌, string_bytes}
use Rattle.std.proofs.lemmas.List.{get_or_default}
use Rattle.script.specs.Lines.{texts_of, at}
use Rattle.replay.proofs.OneReplay.{replays_once}
use Rattle.replay.proofs.Turning.{told_more, told_all}
use Rattle.replay.proofs.replay.replay.Goals as goal

pub loop-place-preserved : goal.loop-place-preserved
loop-place-preserved c =
    let lines = c.deref-line-items.result.now in
    let i = c.loop-place.place in
    let there : i < length lines = omega (arith, c.loop-place-test.true) in
    told_more _ lines i _ _ _ c.loop-place.invariant (at lines i) there (get_or_default lines i _ _ there) _ c.in_ok-told.ensures _ (c.in_ok-push_str.ensures.bytes ∙ ap (λ xs. string_bytes c.loop-place.text ++ xs) c.as_str.ensures.value)

pub returns : goal.returns
returns c =
    let text = told_all _ _ _ c.loop-place.place _ _ c.in_ok-session.ensures.starts_fresh_with_plain_settings (ap texts_of c.deref-line-items.ensures.value ∙ c.in_ok-lines.ensures.the_script_cut_at_its_line_feeds) (omega (arith, c.loop-place-test.false, c.loop-place.auto.place-end)) c.loop-place.invariant in
    record { answers_each_line_in_its_session = text; no_other_text = λ other h. replays_once _ _ _ h text }
