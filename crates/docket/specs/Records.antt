-- What holds of every accepted record, whatever the calls that led to it, and what each accepted call makes of its samples.
use Rattle.std.specs.Prelude.{◌≡◌, ℕ, ◌≤◌, List, [], ◌∷◌, ◌++◌, length, Ok, Result}
use Rattle.recording.specs.declared.refusal.Refusal.{Refusal}
use Rattle.recording.specs.declared.sample.Sample.{Sample}
use Rattle.recording.specs.declared.reading.Reading.{Reading}
use Rattle.recording.specs.Readings.{Gives}
use Rattle.disturbance.specs.Trace.{Sound}
use Rattle.disturbance.specs.declared.disturbance.Disturbance.{Disturbance}
use Rattle.docket.specs.Accepted.{Accepted, samples_of, put_edit, amend_edit, strike_edit, Closes}
use Rattle.docket.specs.Calls.{Meaning, Outcome}
use Rattle.docket.specs.Steps.{Step, History}
use Rattle.docket.specs.Dockets.{ClosesExactly}

-- samples within their limits, at times that strictly rise; with places in a table of so many, and at most 4,096
pub record IsTimeline (places : ℕ) (xs : List Sample) : Type 0 where
  pub sound : Sound xs
  pub room : length xs ≤ places
  pub few : length xs ≤ 4096

-- the accepted samples are, after any history
abbrev pub RecordsAreTimelines : Type 0
RecordsAreTimelines = (places : ℕ) (a : Accepted) → History places a → IsTimeline places (samples_of a)

-- and close has an answer on them, which is what the rule of the disturbance says
abbrev pub RecordsCloseExactly : Type 0
RecordsCloseExactly =
    (places : ℕ) (a : Accepted) → History places a → (o : Result Disturbance Refusal) × Closes (samples_of a) o × ClosesExactly (samples_of a) o

-- a history with one step more is a history, and leads to the record of that step
abbrev pub StepsGoOn : Type 0
StepsGoOn =
    (places : ℕ) (a : Accepted) (c : Meaning) (x : Outcome) (b : Accepted)
    → History places a → Step places a c x b → History places b

-- ys are the samples xs with the one that the reading gives at the end
pub record AddedAtTheEnd (xs : List Sample) (r : Reading) (ys : List Sample) : Type 0 where
  pub sample : Sample
  pub gives : Gives r sample
  pub are : ys ≡ xs ++ sample ∷ []

-- ys are the samples xs, at place i the one that the reading gives and every other as it was
pub record ReplacedAt (i : ℕ) (xs : List Sample) (r : Reading) (ys : List Sample) : Type 0 where
  pub before : List Sample
  pub old : Sample
  pub sample : Sample
  pub later : List Sample
  pub place : length before ≡ i
  pub were : xs ≡ before ++ old ∷ later
  pub gives : Gives r sample
  pub are : ys ≡ before ++ sample ∷ later

-- ys are the samples xs without the one at place i
pub record TakenOutAt (i : ℕ) (xs ys : List Sample) : Type 0 where
  pub before : List Sample
  pub old : Sample
  pub later : List Sample
  pub place : length before ≡ i
  pub were : xs ≡ before ++ old ∷ later
  pub are : ys ≡ before ++ later

-- an accepted put, amend and strike do that to the accepted samples, and answer how many there are then
abbrev pub PutsAdd : Type 0
PutsAdd =
    (places : ℕ) (xs : List Sample) (r : Reading) (n : ℕ) → (put_edit places xs r).answer ≡ Ok n
    → AddedAtTheEnd xs r (put_edit places xs r).samples × (n ≡ length (put_edit places xs r).samples)

abbrev pub AmendsReplace : Type 0
AmendsReplace =
    (xs : List Sample) (i : ℕ) (r : Reading) (n : ℕ) → (amend_edit xs i r).answer ≡ Ok n
    → ReplacedAt i xs r (amend_edit xs i r).samples × (n ≡ length (amend_edit xs i r).samples)

abbrev pub StrikesTakeOut : Type 0
StrikesTakeOut =
    (xs : List Sample) (i n : ℕ) → (strike_edit xs i).answer ≡ Ok n → TakenOutAt i xs (strike_edit xs i).samples × (n ≡ length (strike_edit xs i).samples)
