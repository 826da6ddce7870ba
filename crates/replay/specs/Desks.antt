-- Dockets with their tables, and a call on one.
use Rattle.std.specs.Prelude.{◌≡◌, ℕ, pos, List, replicate}
use Rattle.recording.specs.declared.sample.Sample.{Sample}
use Rattle.recording.specs.declared.makes.ByteRecording.{ByteRecording}
use Rattle.recording.specs.Makes.{members_of}
use Rattle.response.specs.declared.chosen.Rule.{Rule}
use Rattle.response.specs.Chosen.{triggers_of, weighs_of}
use Rattle.calls.specs.declared.call.Call.{Call}
use Rattle.calls.specs.declared.turn.Turn.{Turn}
use Rattle.docket.specs.Calls.{Meaning}
use Rattle.calls.specs.Calls.{meaning_of}
use Rattle.calls.specs.Outcomes.{Does}
use Rattle.replay.specs.declared.desk.Desk.{Desk}
use Rattle.replay.specs.declared.reply.Reply.{Reply}
use Rattle.replay.specs.Replies.{replied}

-- a new table of so many places
abbrev pub blank_table : ℕ → List Sample
blank_table places = replicate places (record { time = 0; frequency = 0; power = pos 0 })

-- what a call means with the recordings and rules of a session
abbrev pub meant : Call ByteRecording Rule → Meaning
meant call = meaning_of (λ r. members_of r.make r.bytes.now) triggers_of weighs_of call

-- a call on a docket and its table is answered, or is not offered, as it is for any table
pub record Called (before : Desk) (call : Meaning) (reply : Reply) (after : Desk) : Type 0 where
  pub turn : Turn
  pub does : Does before.state before.table.items call turn after.table.items
  pub state : after.state ≡ turn.state
  pub reply_is : reply ≡ replied turn.answer
