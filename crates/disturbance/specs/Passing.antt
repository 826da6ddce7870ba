-- What is asked of the line in whole numbers: heights, which are dips raised by nominal, and a level passed.
use Rattle.std.specs.Prelude.{ℕ, ◌+◌, ◌-◌, ◌*◌, ◌<◌, ◌≤◌, Bool, true, false, cond, List}
use Rattle.recording.specs.declared.sample.Sample.{Sample}
use Rattle.disturbance.specs.declared.direction.Direction.{Direction}
use Rattle.disturbance.specs.declared.direction.Direction.TheVariants.{Low, High}
use Rattle.disturbance.specs.declared.passing.Mark.{Mark}
use Rattle.disturbance.specs.declared.passing.Mark.TheVariants.{Reach, Exceed}
use Rattle.disturbance.specs.Line.{LineAt}

-- the dip of a frequency, raised by nominal
abbrev pub height : Direction → ℕ → ℕ
height Low f = 100000 - f
height High f = f

-- the level of a mark
abbrev pub level : Mark → ℕ
level (Reach l) = l
level (Exceed l) = l

-- only what lies above the level is past the mark
abbrev pub is_above : Mark → Bool
is_above (Reach l) = false
is_above (Exceed l) = true

-- a level, or what lies above it, taken span times
abbrev pub goal : ℕ → Bool → ℕ → ℕ
goal level above span = level * span + cond above 1 0

-- the height of the line from a to b has passed the level at the time t
abbrev pub Passes : Direction → ℕ → Bool → Sample → Sample → ℕ → Type 0
Passes d level above a b t = goal level above (b.time - a.time) ≤ height d a.frequency * (b.time - t) + height d b.frequency * (t - a.time)

-- the height of the line has passed the level at the time t, after a and not after b, not before from
abbrev pub PassedBetween : Direction → ℕ → Bool → Sample → Sample → ℕ → ℕ → Type 0
PassedBetween d level above a b from t = (from ≤ t) × (a.time < t) × (t ≤ b.time) × Passes d level above a b t

-- the line of the whole trace has passed at the time t, not before from
abbrev pub PassedFrom : List Sample → Direction → ℕ → Bool → ℕ → ℕ → Type 0
PassedFrom xs d level above from t = (from ≤ t) × LineAt (Passes d level above) xs t

-- the other direction
abbrev pub turned : Direction → Direction
turned Low = High
turned High = Low
