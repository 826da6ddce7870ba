-- How a docket and its table stand, and what each call leaves of them.
use Rattle.std.specs.Prelude.{◌≡◌, ℕ, ◌≤◌, ◌↔◌, cond, List, ◌∷◌, ◌++◌, length, take, Some, Ok, Err, Option, Result, MatchResult}
use Rattle.std.specs.Result.{result_unwrap_or, result_map_both}
use Rattle.recording.specs.declared.refusal.Reason.TheVariants.{OtherTable, NoDisturbance}
use Rattle.recording.specs.declared.refusal.Refusal.{Refusal}
use Rattle.recording.specs.declared.sample.Sample.{Sample}
use Rattle.recording.specs.declared.reading.Reading.{Reading}
use Rattle.recording.specs.declared.interface.Member.{Member}
use Rattle.recording.specs.Refusals.{refusal}
use Rattle.timeline.specs.Samples.{samples}
use Rattle.timeline.specs.Orders.{Sound, is_sound}
use Rattle.timeline.specs.Faults.{other_table}
use Rattle.timeline.specs.Timelines.{answered, over, written}
use Rattle.timeline.specs.Timelines as timeline
use Rattle.disturbance.specs.declared.disturbance.Disturbance.{Disturbance}
use Rattle.disturbance.specs.Disturbance.{Disturbed}
use Rattle.docket.specs.declared.docket.OpenDocket.{OpenDocket}
use Rattle.docket.specs.declared.docket.ClosedDocket.{ClosedDocket}
use Rattle.docket.specs.declared.docket.Kept.{Kept}
use Rattle.docket.specs.declared.docket.State.{State}
use Rattle.docket.specs.declared.docket.State.TheVariants.{Open, Closed}
use Rattle.docket.specs.Reasons.{samples_in, amended, put_reasons, amend_reasons}
use Rattle.docket.specs.Loading.{all_samples}
use Rattle.docket.specs.Accepted.{Accepted, opened, closed, samples_of, record_fault, Closes}
use Rattle.docket.specs.Calls.{Meaning, Outcome}
use Rattle.docket.specs.Steps.{Step, History}

-- ---- how a docket in either state and its table stand to the accepted record
-- the counted samples, with the mark of the state
abbrev pub record_of : State → List Sample → Accepted
record_of (Open docket) table = opened (take docket.count table)
record_of (Closed docket) table = closed (take docket.count table)

abbrev pub count_of : State → ℕ
count_of (Open docket) = docket.count
count_of (Closed docket) = docket.count

-- a closed docket has the disturbance of its samples
abbrev pub HasDisturbance : State → List Sample → Type 0
HasDisturbance (Open docket) table = Unit {0}
HasDisturbance (Closed docket) table = Disturbed (take docket.count table) docket.disturbance

-- a docket and a table of so many places hold an accepted record
pub record Holds (places : ℕ) (a : Accepted) (state : State) (table : List Sample) : Type 0 where
  pub places_are : length table ≡ places
  pub room : count_of state ≤ length table
  pub record_is : a ≡ record_of state table
  pub disturbance : HasDisturbance state table

-- a call on a docket and its table: whatever history leads to the record that they hold, the call is a step of it, and they hold
-- the next record as they are left; the table is what it was, with the samples of the next record laid over its front
abbrev pub Follows : (before : State) (table : List Sample) → Meaning → Outcome → (after : State) (left : List Sample) → Type 0
Follows before table call outcome after left =
    (places : ℕ) (a : Accepted) → History places a → Holds places a before table
    → (next : Accepted) × Step places a call outcome next
    × Holds places next after left × (left ≡ over (samples_of next) table)

-- ---- what a call answers and leaves, with any table
-- the count after an answer
abbrev pub count_after : Result ℕ Refusal → ℕ → ℕ
count_after r old = result_unwrap_or r old

-- put of a reading
abbrev pub PutsReading : ℕ → List Sample → Reading → Result ℕ Refusal → List Sample → Type 0
PutsReading count table r = timeline.Outcome (other_table samples count table ∷ put_reasons (length table) (take count table) r) (λ why. refusal why count 0) (take count table ++ samples_in r) table

-- amend by a reading
abbrev pub AmendsReading : ℕ → List Sample → ℕ → Reading → Result ℕ Refusal → List Sample → Type 0
AmendsReading count table i r = timeline.Outcome (other_table samples count table ∷ amend_reasons (take count table) i r) (λ why. refusal why i 0) (amended (take count table) i r) table

-- load of members: refused for the table first
abbrev pub table_fault : ℕ → List Sample → List Member → Option Refusal
table_fault count table ms = cond (is_sound samples count table) (record_fault (length table) (take count table) ms) (Some (refusal OtherTable 0 0))

pub record LoadsMembers (count : ℕ) (table : List Sample) (ms : List Member) (r : Result ℕ Refusal) (new : List Sample) : Type 0 where
  pub answer : r ≡ answered (λ f. f) (length (take count table ++ all_samples ms)) (table_fault count table ms)
  pub leaves : new ≡ written (table_fault count table ms) (take count table ++ all_samples ms) table

-- the docket after a close: closed, or the open one again
abbrev pub after_close : Result ClosedDocket Kept → State
after_close (Ok docket) = Closed docket
after_close (Err k) = Open k.docket

-- the disturbance that a close answers, or its refusal
abbrev pub close_says : Result ClosedDocket Kept → Result Disturbance Refusal
close_says r = result_map_both (λ (docket : ClosedDocket). docket.disturbance) (λ (kept : Kept). kept.refusal) r

-- close: refused for a table that is another's, before anything else; else by the rule of the disturbance on the counted samples.
-- A closed docket keeps the count, and one that is not closed is handed back as it was
pub record ClosesOn (docket : OpenDocket) (table : List Sample) (r : Result ClosedDocket Kept) : Type 0 where
  pub own : Sound samples docket.count table → Closes (take docket.count table) (close_says r)
  pub other : (Sound samples docket.count table → ⊥) → close_says r ≡ Err (refusal OtherTable 0 0)
  pub docket_is : MatchResult r (λ c. c.count ≡ docket.count) (λ k. k.docket ≡ docket)

-- what close says of samples, by the rule of the disturbance: it is closed on d exactly where d is their disturbance, and refused exactly where nothing is
pub record ClosesExactly (xs : List Sample) (says : Result Disturbance Refusal) : Type 0 where
  pub closed_on : (d : Disturbance) → (says ≡ Ok d) ↔ Disturbed xs d
  pub refused : (says ≡ Err (refusal NoDisturbance 0 0)) ↔ ((d : Disturbance) → Disturbed xs d → ⊥)
