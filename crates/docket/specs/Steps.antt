-- Each call on an accepted record is a step to the next; histories are calls that lead on from a new docket.
-- A docket has one table, of so many places.
use Rattle.std.specs.Prelude.{◌≡◌, ℕ, List, [], ◌∷◌, Result}
use Rattle.recording.specs.declared.refusal.Refusal.{Refusal}
use Rattle.recording.specs.declared.sample.Sample.{Sample}
use Rattle.recording.specs.declared.reading.Reading.{Reading}
use Rattle.recording.specs.declared.interface.Member.{Member}
use Rattle.disturbance.specs.declared.disturbance.Disturbance.{Disturbance}
use Rattle.figure.specs.declared.report.Report.{Report}
use Rattle.docket.specs.Accepted.{Accepted, opened, closed, put_edit, load_edit, amend_edit, strike_edit, Closes, close_record}
use Rattle.figure.specs.Asked.{Asked}
use Rattle.docket.specs.Deliveries.{Delivered}
use Rattle.docket.specs.Calls.{Meaning, of_open, of_closed, Outcome, counted, closed_on, reported, reopened}
use Rattle.docket.specs.Calls as call

-- the call on the record brings this, and makes the next record of it; a call that the mark does not allow has no rule
pub data Step (places : ℕ) : Accepted → Meaning → Outcome → Accepted → Type 0 where
  put : (xs : List Sample) (r : Reading)
      → Step places (opened xs) (of_open (call.put r)) (counted (put_edit places xs r).answer) (opened (put_edit places xs r).samples)
  load : (xs : List Sample) (ms : List Member)
      → Step places (opened xs) (of_open (call.load ms)) (counted (load_edit places xs ms).answer) (opened (load_edit places xs ms).samples)
  amend : (xs : List Sample) (i : ℕ) (r : Reading)
      → Step places (opened xs) (of_open (call.amend i r)) (counted (amend_edit xs i r).answer) (opened (amend_edit xs i r).samples)
  strike : (xs : List Sample) (i : ℕ)
      → Step places (opened xs) (of_open (call.strike i)) (counted (strike_edit xs i).answer) (opened (strike_edit xs i).samples)
  close : (xs : List Sample) (o : Result Disturbance Refusal) → Closes xs o
      → Step places (opened xs) (of_open call.close) (closed_on o) (close_record xs o)
  deliver : (xs : List Sample) (q : Asked) (r : Result Report Refusal) → Delivered xs q r
      → Step places (closed xs) (of_closed (call.deliver q)) (reported r) (closed xs)
  reopen : (xs : List Sample) → Step places (closed xs) (of_closed call.reopen) reopened (opened xs)

-- an open docket offers no call of a closed one, and a closed docket none of an open one
abbrev pub Unoffered : Accepted → Meaning → Type 0
Unoffered (opened xs) (of_closed c) = Unit {0}
Unoffered (closed xs) (of_open c) = Unit {0}
Unoffered a c = ⊥

-- the calls, one after the other, lead from one accepted record to another
abbrev pub LeadsTo : ℕ → Accepted → List Meaning → Accepted → Type 0
LeadsTo places a [] b = a ≡ b
LeadsTo places a (c ∷ calls) b =
    (outcome : Outcome) × (next : Accepted) × Step places a c outcome next × LeadsTo places next calls b

-- calls that lead from a new docket to an accepted record
abbrev pub History : ℕ → Accepted → Type 0
History places a = (calls : List Meaning) × LeadsTo places (opened []) calls a
