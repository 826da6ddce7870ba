-- Replies to the lines of a script.
use Rattle.std.specs.Prelude.{Some, None, Ok, Err, Option, Result}
use Rattle.recording.specs.declared.refusal.Refusal.{Refusal}
use Rattle.calls.specs.declared.answer.Answer.{Answer}
use Rattle.calls.specs.declared.answer.Answer.TheVariants.{Refused}
use Rattle.replay.specs.declared.reply.Reply.{Reply}
use Rattle.replay.specs.declared.reply.Reply.TheVariants.{Told, Done, NotOffered}

-- what a docket answers, or that its state does not offer the call
abbrev pub replied : Option Answer → Reply
replied (Some answer) = Told answer
replied None = NotOffered

-- a refusal is told as a docket's answer is
abbrev pub refused : Refusal → Reply
refused f = Told (Refused f)

-- that a choice is made, or why it is refused
abbrev pub granted : {X : Type 0} → Result X Refusal → Reply
granted (Ok x) = Done
granted (Err f) = refused f
