-- A trace of samples: what makes it sound.
use Rattle.std.specs.Prelude.{ℕ, ◌+◌, ◌<◌, ◌≤◌, List, length, pos, neg_ℤ, ◌≤ℤ◌, slice_index_or}
use Rattle.recording.specs.Samples.{latest, least_frequency, greatest_frequency, greatest_power}
use Rattle.recording.specs.declared.sample.Sample.{Sample}

-- the sample at a place
abbrev pub at : List Sample → ℕ → Sample
at xs k = slice_index_or xs k (record { time = 0; frequency = 0; power = pos 0 })

-- a sample is within its limits: time, frequency either way, power either way
abbrev pub Within : Sample → Type 0
Within s = (s.time ≤ latest) × (least_frequency ≤ s.frequency) × (s.frequency ≤ greatest_frequency) × (neg_ℤ greatest_power ≤ℤ s.power) × (s.power ≤ℤ greatest_power)

-- times strictly rise
abbrev pub Rising : List Sample → Type 0
Rising xs = (k : ℕ) → k + 1 < length xs → (at xs k).time < (at xs (k + 1)).time

-- times strictly rise and every sample is within its limits
abbrev pub Sound : List Sample → Type 0
Sound xs = Rising xs × ((k : ℕ) → k < length xs → Within (at xs k))
