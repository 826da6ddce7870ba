-- What holds of every call, on every accepted record.
use Rattle.std.specs.Prelude.{◌≡◌, ℕ, List, []}
use Rattle.recording.specs.declared.refusal.Refusal.{Refusal}
use Rattle.docket.specs.Accepted.{Accepted, opened, samples_of}
use Rattle.docket.specs.Calls.{Meaning, Outcome}
use Rattle.docket.specs.Records.{IsTimeline}
use Rattle.docket.specs.Steps.{Step, Unoffered, LeadsTo}
use Rattle.calls.specs.declared.answer.Answer.TheVariants.{Refused}
use Rattle.calls.specs.Answers.{told}

-- a call whose answer is a refusal leaves the accepted record as it was
abbrev pub RefusedChangesNothing : Type 0
RefusedChangesNothing =
    (places : ℕ) (a : Accepted) (c : Meaning) (x : Outcome) (f : Refusal) (next : Accepted)
    → Step places a c x next → told x ≡ Refused f → next ≡ a

-- a call has one answer, and leads to one record
abbrev pub OneAnswer : Type 0
OneAnswer =
    (places : ℕ) (a : Accepted) (c : Meaning) (x y : Outcome) (b d : Accepted)
    → Step places a c x b → Step places a c y d → (x ≡ y) × (b ≡ d)

-- a call that is not offered has no answer
abbrev pub UnofferedIsUnanswered : Type 0
UnofferedIsUnanswered =
    (places : ℕ) (a : Accepted) (c : Meaning) (x : Outcome) (b : Accepted) → Unoffered a c → Step places a c x b → ⊥

-- calls lead to one record
abbrev pub OneRecord : Type 0
OneRecord =
    (places : ℕ) (a : Accepted) (calls : List Meaning) (b d : Accepted)
    → LeadsTo places a calls b → LeadsTo places a calls d → b ≡ d

-- after any calls on a new docket the accepted samples are a timeline
abbrev pub LedToTimelines : Type 0
LedToTimelines =
    (places : ℕ) (calls : List Meaning) (a : Accepted)
    → LeadsTo places (opened []) calls a → IsTimeline places (samples_of a)
