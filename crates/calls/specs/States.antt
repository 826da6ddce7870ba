-- How the turn of a call on a docket in either state stands to the accepted record.
use Rattle.std.specs.Prelude.{◌≡◌, List, MatchOption}
use Rattle.recording.specs.declared.sample.Sample.{Sample}
use Rattle.docket.specs.declared.docket.State.{State}
use Rattle.docket.specs.Calls.{Meaning, Outcome}
use Rattle.docket.specs.Steps.{Unoffered}
use Rattle.docket.specs.Dockets.{record_of, Follows}
use Rattle.calls.specs.declared.turn.Turn.{Turn}
use Rattle.calls.specs.Answers.{told}

-- a call is answered with what it brings, and is a step of the accepted record; or it is not offered, and the table stays
abbrev pub TakesTurn : State → List Sample → Meaning → Turn → List Sample → Type 0
TakesTurn state table c turn left =
    MatchOption turn.answer (Unoffered (record_of state table) c × (left ≡ table))
    (λ answer. (outcome : Outcome) × (answer ≡ told outcome) × Follows state table c outcome turn.state left)
