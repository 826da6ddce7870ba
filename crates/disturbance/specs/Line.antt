-- Between neighbouring samples, frequency follows the straight line, and so does what is counted from it.
use Rattle.std.specs.Prelude.{ℕ, ◌-◌, ◌<◌, ◌≤◌, List, length, ℤ, pos}
use Rattle.exact.specs.Fractions.{Fraction, whole, ◌≼◌, ◌≺◌}
use Rattle.exact.specs.Lines.{straight}
use Rattle.recording.specs.declared.sample.Sample.{Sample}
use Rattle.disturbance.specs.Trace.{at}

-- the straight line from a to b at the time t, of what value says of a frequency
abbrev pub line : (ℕ → ℤ) → Sample → Sample → ℕ → Fraction
line value a b t = straight a.time (whole (value a.frequency)) b.time (whole (value b.frequency)) t

-- there the line is below the level
abbrev pub Under : (ℕ → ℤ) → ℕ → Sample → Sample → ℕ → Type 0
Under value level a b t = line value a b t ≺ whole (pos level)

-- there the line is above the level
abbrev pub Over : (ℕ → ℤ) → ℕ → Sample → Sample → ℕ → Type 0
Over value level a b t = whole (pos level) ≺ line value a b t

-- there the line is at least the level
abbrev pub AtLeast : (ℕ → ℤ) → ℕ → Sample → Sample → ℕ → Type 0
AtLeast value level a b t = whole (pos level) ≼ line value a b t

-- P holds of the line at the time t, which is after sample place - 1 and not after sample place
pub record LineAt (P : Sample → Sample → ℕ → Type 0) (xs : List Sample) (t : ℕ) : Type 0 where
  pub place : ℕ
  pub later : 1 ≤ place
  pub there : place < length xs
  pub after : (at xs (place - 1)).time < t
  pub until : t ≤ (at xs place).time
  pub holds : P (at xs (place - 1)) (at xs place) t
