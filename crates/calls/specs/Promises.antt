-- What is promised of every answer in a list of calls on a new docket, and so of every delivery.
-- The calls before it lead, step by step, from one accepted record to the next, by their arguments and the number of the
-- table's places alone: to one record, and to no other. The call is the next step, and what it brings is what is answered.
-- A delivery is on a closed record, and is that of its samples, with all that `Delivered` says of one: the report that the
-- steps define or the refusal of the first defect, and nothing else; less than one watt from the exact delivery, with a
-- fair verdict; and refused exactly where a defect applies.
use Rattle.std.specs.Prelude.{◌≡◌, ℕ, ◌<◌, List, [], ◌∷◌, ◌++◌, length, Ok, Err, Result, slice_index_or}
use Rattle.recording.specs.declared.refusal.Refusal.{Refusal}
use Rattle.recording.specs.declared.sample.Sample.{Sample}
use Rattle.figure.specs.declared.report.Report.{Report}
use Rattle.docket.specs.Accepted.{Accepted, opened, closed}
use Rattle.figure.specs.Asked.{Asked}
use Rattle.docket.specs.Deliveries.{Delivered}
use Rattle.docket.specs.Calls.{Meaning, of_closed, deliver, Outcome, reported}
use Rattle.docket.specs.Steps.{Step, LeadsTo}
use Rattle.calls.specs.declared.answer.Answer.{Answer}
use Rattle.calls.specs.declared.run.NotOffered.{NotOffered}
use Rattle.calls.specs.Answers.{told}

-- what is answered to a call that comes after these calls
pub record AnsweredAfter (places : ℕ) (a : Accepted) (before : List Meaning) (c : Meaning) (answer : Answer) : Type 0 where
  -- the calls before it lead to one record, and to no other
  pub accepted : Accepted
  pub led_to : LeadsTo places a before accepted
  pub no_other_record : (b : Accepted) → LeadsTo places a before b → b ≡ accepted
  -- the call is a step of it, and what it brings is told
  pub outcome : Outcome
  pub next : Accepted
  pub step : Step places accepted c outcome next
  pub told_as : answer ≡ told outcome

-- and to a deliver
pub record DeliveredAfter (places : ℕ) (a : Accepted) (before : List Meaning) (q : Asked) (answer : Answer) : Type 0 where
  -- the calls before it lead to a closed record, and to no other
  pub samples : List Sample
  pub led_to : LeadsTo places a before (closed samples)
  pub no_other_record : (b : Accepted) → LeadsTo places a before b → b ≡ closed samples
  -- what is told is the report or the refusal of the delivery on its samples
  pub outcome : Result Report Refusal
  pub told_as : answer ≡ told (reported outcome)
  pub delivered : Delivered samples q outcome

-- how many calls were answered
abbrev pub answered : Result ℕ NotOffered → ℕ
answered (Ok count) = count
answered (Err stopped) = stopped.place

-- wherever a call stands in the list, if it is answered: the place of its answer holds what is answered after the calls before it,
-- on a new docket. The place is there, so that the default d is never read
abbrev pub EveryAnswer : ℕ → List Meaning → Result ℕ NotOffered → List Answer → Type 0
EveryAnswer places calls result answers =
    (before : List Meaning) (c : Meaning) (later : List Meaning) → calls ≡ before ++ c ∷ later → length before < answered result
    → (d : Answer) → AnsweredAfter places (opened []) before c (slice_index_or answers (length before) d)

-- and wherever a deliver stands
abbrev pub EveryDelivery : ℕ → List Meaning → Result ℕ NotOffered → List Answer → Type 0
EveryDelivery places calls result answers =
    (before : List Meaning) (q : Asked) (later : List Meaning)
    → calls ≡ before ++ of_closed (deliver q) ∷ later → length before < answered result
    → (d : Answer) → DeliveredAfter places (opened []) before q (slice_index_or answers (length before) d)
