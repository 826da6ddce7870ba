-- What is found on the stretches of a trace, one after the other.
use Rattle.std.specs.Prelude.{◌≡◌, ℕ, ◌-◌, ◌<◌, ◌≤◌, List, length, Some, None, Option, MatchOption}
use Rattle.recording.specs.declared.sample.Sample.{Sample}
use Rattle.disturbance.specs.declared.stretch.Stretch.{Stretch}
use Rattle.disturbance.specs.Trace.{at}

-- o may be found on the stretch from sample k - 1 to sample k
pub record FoundAt {T : Type 0} (finds : Stretch → Option T → Type 0) (xs : List Sample) (k : ℕ) (o : Option T) : Type 0 where
  pub stretch : Stretch
  pub before : stretch.before ≡ at xs (k - 1)
  pub after : stretch.after ≡ at xs k
  pub found : finds stretch o

-- nothing is found on the stretches before place n
abbrev pub NoneBefore : {T : Type 0} → (Stretch → Option T → Type 0) → List Sample → ℕ → Type 0
NoneBefore finds xs n = (k : ℕ) → 1 ≤ k → k < n → FoundAt finds xs k None

-- t is found at place k, and nothing before
pub record FoundFirst {T : Type 0} (finds : Stretch → Option T → Type 0) (xs : List Sample) (t : T) : Type 0 where
  pub place : ℕ
  pub later : 1 ≤ place
  pub there : place < length xs
  pub found : FoundAt finds xs place (Some t)
  pub earlier : NoneBefore finds xs place

-- the first that is found, or none on any stretch
abbrev pub FirstFound : {T : Type 0} → (Stretch → Option T → Type 0) → List Sample → Option T → Type 0
FirstFound finds xs o = MatchOption o (NoneBefore finds xs (length xs)) (λ t. FoundFirst finds xs t)
