-- Inside and outside: the band around nominal.
use Rattle.std.specs.Prelude.{ℕ, ◌<◌, ◌≤◌, ◌⊎◌, pos}
use Rattle.recording.specs.declared.sample.Sample.{Sample}
use Rattle.disturbance.specs.declared.direction.Direction.{Direction}
use Rattle.disturbance.specs.declared.direction.Direction.TheVariants.{Low, High}
use Rattle.disturbance.specs.Line.{Under, Over}

-- the lowest frequency inside
abbrev pub lowest : ℕ
lowest = 49850

-- the highest frequency inside
abbrev pub highest : ℕ
highest = 50150

-- a sample is inside, both edges included
abbrev pub Inside : Sample → Type 0
Inside s = (lowest ≤ s.frequency) × (s.frequency ≤ highest)

-- a sample is outside, on one side
abbrev pub Beyond : Direction → Sample → Type 0
Beyond Low s = s.frequency < lowest
Beyond High s = highest < s.frequency

-- the line from a to b is outside at the time t
abbrev pub Outside : Sample → Sample → ℕ → Type 0
Outside a b t = Under pos lowest a b t ⊎ Over pos highest a b t
