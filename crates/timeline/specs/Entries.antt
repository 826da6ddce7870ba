-- What a timeline knows of its entries, and the limits of their fields.
use Rattle.std.specs.Prelude.{ℕ, ◌<◌, ◌||◌, ◌⊎◌, ℤ, neg_ℤ, ◌<ℤ◌, Option, int_lt, nat_lt}
use Rattle.recording.specs.declared.refusal.Field.{Field}
use Rattle.recording.specs.declared.refusal.Field.TheVariants.{Time, Frequency, Power}
use Rattle.recording.specs.Samples.{latest, least_frequency, greatest_frequency, greatest_power}
use Rattle.timeline.specs.Checks.{Check}

-- a kind of entry: its time, the first of its fields that is outside its limits, and how many there may be
pub record Kind (E : Type 0) : Type 0 where
  pub time : E → ℕ
  pub outside : E → Option Field
  pub most : ℕ

-- the time is after the latest
abbrev pub time_limits : ℕ → Check Field
time_limits t = record { Applies = latest < t; test = nat_lt latest t; answer = Time }

-- the frequency is below the least or above the greatest
abbrev pub frequency_limits : ℕ → Check Field
frequency_limits f = record { Applies = (f < least_frequency) ⊎ (greatest_frequency < f); test = nat_lt f least_frequency || nat_lt greatest_frequency f; answer = Frequency }

-- the power is beyond the greatest either way
abbrev pub power_limits : ℤ → Check Field
power_limits p = record { Applies = (p <ℤ neg_ℤ greatest_power) ⊎ (greatest_power <ℤ p); test = int_lt p (neg_ℤ greatest_power) || int_lt greatest_power p; answer = Power }
