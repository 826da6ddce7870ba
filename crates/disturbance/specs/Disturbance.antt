-- The disturbance: when the line leaves the band, and on which side.
use Rattle.std.specs.Prelude.{◌≡◌, ℕ, zero, suc, ◌+◌, ◌-◌, ◌*◌, ◌/◌, ◌<◌, ◌≤◌, cond, ◌&&◌, List, length, Some, None, Option, MatchOption, nat_le, nat_lt}
use Rattle.std.specs.Option.{option_or}
use Rattle.exact.specs.First.{First}
use Rattle.recording.specs.declared.sample.Sample.{Sample}
use Rattle.disturbance.specs.declared.direction.Direction.{Direction}
use Rattle.disturbance.specs.declared.direction.Direction.TheVariants.{Low, High}
use Rattle.disturbance.specs.declared.disturbance.Disturbance.{Disturbance}
use Rattle.disturbance.specs.Trace.{at, Sound}
use Rattle.disturbance.specs.Line.{LineAt}
use Rattle.disturbance.specs.Band.{lowest, highest, Inside, Beyond, Outside}

-- sample k - 1 is inside and sample k is outside
pub record Leaves (xs : List Sample) (k : ℕ) : Type 0 where
  pub later : 1 ≤ k
  pub there : k < length xs
  pub inside : Inside (at xs (k - 1))
  pub outside : Inside (at xs k) → ⊥

-- d lies between a and b: a is inside, b is outside on its side, and its time is the first at which the line is outside
pub record LeavesBy (a b : Sample) (d : Disturbance) : Type 0 where
  pub inside : Inside a
  pub side : Beyond d.direction b
  pub line : First (λ t. (a.time < t) × (t ≤ b.time) × Outside a b t) d.time

-- after sample k - 1, the line is outside at the time t
abbrev pub OutsideAfter : List Sample → ℕ → ℕ → Type 0
OutsideAfter xs k t = ((at xs (k - 1)).time < t) × LineAt Outside xs t

-- d is the disturbance: at the first place that leaves, the first millisecond outside and the side of the sample there
pub record Disturbed (xs : List Sample) (d : Disturbance) : Type 0 where
  pub place : ℕ
  pub leaves : First (Leaves xs) place
  pub line : First (OutsideAfter xs place) d.time
  pub side : Beyond d.direction (at xs place)

-- there is no disturbance: no place leaves
abbrev pub Undisturbed : List Sample → Type 0
Undisturbed xs = (k : ℕ) → Leaves xs k → ⊥

-- the answer for a trace: the disturbance, or none
abbrev pub Answers : List Sample → Option Disturbance → Type 0
Answers xs o = MatchOption o (Undisturbed xs) (λ d. Disturbed xs d)

-- ---- the same worked out, place by place

-- the side to which sample b leaves the band, sample a being inside
abbrev pub leaves_to : Sample → Sample → Option Direction
leaves_to a b = cond (nat_le lowest a.frequency && nat_le a.frequency highest) (cond (nat_lt b.frequency lowest) (Some Low) (cond (nat_lt highest b.frequency) (Some High) None)) None

-- the whole milliseconds that the line takes to the edge, and one more
abbrev pub leaving_time : Direction → Sample → Sample → ℕ
leaving_time Low a b = a.time + ((a.frequency - lowest) * (b.time - a.time) / (a.frequency - b.frequency) + 1)
leaving_time High a b = a.time + ((highest - a.frequency) * (b.time - a.time) / (b.frequency - a.frequency) + 1)

-- with the time at which the line leaves to that side
abbrev pub timed : Sample → Sample → Option Direction → Option Disturbance
timed a b (Some d) = Some (record { time = leaving_time d a b; direction = d })
timed a b None = None

-- the disturbance between two neighbours, if there is one
abbrev pub leaving : Sample → Sample → Option Disturbance
leaving a b = timed a b (leaves_to a b)

-- the first disturbance between neighbours from place k on, over the places that are left
unfoldable pub disturbance_from : List Sample → ℕ → ℕ → Option Disturbance
disturbance_from xs k zero = None
disturbance_from xs k (suc left) = option_or (leaving (at xs (k - 1)) (at xs k)) (disturbance_from xs (k + 1) left)

-- the disturbance of a list of samples, or none
unfoldable pub disturbance_of : List Sample → Option Disturbance
disturbance_of xs = disturbance_from xs 1 (length xs - 1)

-- every sound list has exactly one answer, and it is the one worked out
pub record DisturbanceLaws : Type 0 where
  pub answers : (xs : List Sample) → Sound xs → Answers xs (disturbance_of xs)
  pub only : (xs : List Sample) (o : Option Disturbance) → Sound xs → Answers xs o → o ≡ disturbance_of xs
  pub same : (xs : List Sample) (d e : Disturbance) → Disturbed xs d → Disturbed xs e → d ≡ e
