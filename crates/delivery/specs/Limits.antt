-- Limits of points, targets and windows, and of what is worked out from them.
use Rattle.std.specs.Prelude.{ℕ, ◌+◌, ◌*◌, ◌^◌, ◌<◌, ◌≤◌, List, [], ◌∷◌, length, pos, slice_index_or}
use Rattle.exact.specs.Limits.{Within}
use Rattle.recording.specs.Samples.{latest}
use Rattle.timeline.specs.declared.target.Target.{Target}
use Rattle.figure.specs.declared.point.Point.{Point}

-- ---- how far from 0 whole numbers come, up or down

-- a power in watts, and in hundredths; the trajectory of targets does not come further
abbrev pub widest_power : ℕ
widest_power = 1000000000

abbrev pub widest_height : ℕ
widest_height = 100 * widest_power

-- by how much targets rise
abbrev pub widest_rise : ℕ
widest_rise = 2 * widest_height

-- a base push, and a base
abbrev pub widest_base : ℕ
widest_base = widest_height + widest_rise

-- a compensated response
abbrev pub widest_response : ℕ
widest_response = 2 ^ 42

-- twice the area under it in a millisecond, and in a window
abbrev pub widest_strip : ℕ
widest_strip = 2 * widest_response

abbrev pub widest_area : ℕ
widest_area = 2 ^ 32 * widest_strip

-- the value of a window
abbrev pub widest_value : ℕ
widest_value = 2 * widest_strip

-- what can be divided half-up
abbrev pub widest_dividend : ℕ
widest_dividend = 2 ^ 110

-- a shift, in ms
abbrev pub widest_shift : ℕ
widest_shift = 2 ^ 40

-- ---- points, targets and windows

-- a point of a sample within its limits
pub record Tame (p : Point) : Type 0 where
  pub time_most : p.time ≤ latest
  pub dip_within : Within 3000 p.dip
  pub push_within : Within widest_power p.push

-- a target within its limits
pub record Aimed (g : Target) : Type 0 where
  pub time_most : g.time ≤ latest
  pub power_within : Within widest_power g.power

-- the first entry is not after t
abbrev pub BeginsBy : {X : Type 0} → (X → ℕ) → ℕ → List X → Type 0
BeginsBy time t [] = Unit {0}
BeginsBy time t (a ∷ rest) = time a ≤ t

-- where no target is
abbrev pub no_target : Target
no_target = record { time = 0; power = pos 0 }

-- targets whose times strictly rise
abbrev pub RisingTargets : List Target → Type 0
RisingTargets gs = (k : ℕ) → k + 1 < length gs → (slice_index_or gs k no_target).time < (slice_index_or gs (k + 1) no_target).time
