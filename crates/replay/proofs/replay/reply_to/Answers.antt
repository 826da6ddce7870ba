-- A line is answered as its words are.
use Rattle.std.proofs.Common.{ap, ◌∙◌}
use Rattle.std.proofs.lemmas.Result.{IfOk-weaker}
use Rattle.script.specs.Lines.{texts_of}
use Rattle.replay.proofs.Turning.{replies_said, replies_none}
use Rattle.replay.proofs.replay.reply_to.Goals as goal

pub returns-in-Some : goal.returns-in-Some
returns-in-Some c =
    IfOk-weaker c.act.result _ _ (λ reply acts. (c.as_slice.result.now, ap texts_of c.as_slice.ensures.value ∙ c.in_ok-words.ensures.the_line_cut_at_its_spaces, replies_said _ _ _ _ _ c.in-Some.ensures.the_command_that_the_words_say_or_none acts)) c.act.ensures.replies_and_acts_as_the_line_says

pub returns : goal.returns
returns c = (c.as_slice.result.now, ap texts_of c.as_slice.ensures.value ∙ c.in_ok-words.ensures.the_line_cut_at_its_spaces, replies_none _ _ c.in-None.ensures.the_command_that_the_words_say_or_none)
