-- What the steps are worked out from, what a report tells of them, and what bars a delivery beside its windows.
use Rattle.std.specs.Prelude.{◌≡◌, ℕ, ◌<◌, ◌≤◌, ◌⊎◌, List, ◌++◌, length, ℤ, pos, ◌+ℤ◌, ◌<ℤ◌, Some, None, Option}
use Rattle.std.specs.List.{AllZip, Contains}
use Rattle.exact.specs.Fractions.{whole}
use Rattle.recording.specs.declared.refusal.Reason.TheVariants.{AmountOutside, NoBaseSample, OutsideTargets}
use Rattle.recording.specs.declared.sample.Sample.{Sample}
use Rattle.recording.specs.Refusals.{refusal}
use Rattle.timeline.specs.declared.target.Target.{Target}
use Rattle.disturbance.specs.declared.direction.Direction.{Direction}
use Rattle.disturbance.specs.declared.disturbance.Disturbance.{Disturbance}
use Rattle.disturbance.specs.Direction.{dip, push}
use Rattle.response.specs.declared.group.Window.{Window}
use Rattle.response.specs.declared.setup.Trigger.{Trigger}
use Rattle.figure.specs.declared.point.Point.{Point}
use Rattle.figure.specs.declared.report.Report.{Report}
use Rattle.figure.specs.Steps.{to_half_up, Case, value}
use Rattle.figure.specs.Asked.{Asked, Times, points_of, targets_of, shift_in, case_of}
use Rattle.figure.specs.Windows.{ramp_time}
use Rattle.figure.specs.Barred.{Bars}
use Rattle.figure.specs.Reports.{Reports}
use Rattle.figure.specs.StepLaws.{InBase}
use Rattle.figure.specs.WindowLaws.{ExactlyIf}

-- ---- what the steps are worked out from

-- a point is a sample as the disturbance sees it
pub record Seen (d : Direction) (s : Sample) (p : Point) : Type 0 where
  pub time : p.time ≡ s.time
  pub dip_is : p.dip ≡ dip d s.frequency
  pub push_is : p.push ≡ push d s.power

-- the case c is that of what is asked of a record with its disturbance, at its recovery
pub record IsCaseOf (xs : List Sample) (d : Disturbance) (a : Asked) (recovery : Option ℕ) (c : Case) : Type 0 where
  -- every sample is a point, in order, and there is no other
  pub points : AllZip (Seen d.direction) xs c.points
  -- the targets are the counted ones; what the table holds beyond them is none
  pub targets : (counted beyond : List Target) → a.table ≡ counted ++ beyond → length counted ≡ a.count → c.targets ≡ counted
  -- they turn as the disturbance does
  pub direction : c.direction ≡ d.direction
  -- the base window is that of the settings, and is counted from T
  pub base_window : c.base ≡ a.settings.base
  -- the rule is asked at offsets from T, whatever the shift
  pub disturbance : c.disturbance ≡ d.time
  pub rule : c.weight ≡ a.weight
  -- and samples are used until recovery
  pub until : c.recovery ≡ recovery

-- ---- what a report tells

-- in whole watts: the values of the windows of the case, and the lesser of them
pub record Tells (c : Case) (report : Report) : Type 0 where
  pub first : whole report.first ≡ value to_half_up c c.first
  pub second : (w : Window) → c.second ≡ Some w → (z : ℤ) × (report.second ≡ Some z) × (whole z ≡ value to_half_up c w)
  pub no_second : c.second ≡ None → report.second ≡ None

-- ---- what bars a delivery

-- the time t lies from the first of the targets to the last, both included
pub record Covers (gs : List Target) (t : ℕ) : Type 0 where
  pub first : Target
  pub last : Target
  pub begins : Contains gs first × (first.time ≤ t)
  pub ends : Contains gs last × (t ≤ last.time)

-- with targets
abbrev pub WithTargets : Asked → Type 0
WithTargets a = 0 < length (targets_of a)

-- every counted target
abbrev pub EachTarget : Asked → (Target → Type 0) → Type 0
EachTarget a P = (g : Target) → Contains (targets_of a) g → P g

-- a base sample
abbrev pub IsBaseSample : List Sample → Disturbance → Asked → Point → Type 0
IsBaseSample xs d a p = Contains (points_of xs d) p × InBase d.time a.settings.base p

pub record AskedLaws (xs : List Sample) (d : Disturbance) (a : Asked) : Type 0 where
  -- the steps are worked out from what is asked
  pub case_is : (recovery : Option ℕ) (shift : ℤ) → IsCaseOf xs d a recovery (case_of xs d a recovery shift)
  -- and a report tells their values
  pub report_tells : (recovery : Option ℕ) (shift : ℤ) (report : Report)
      → Reports xs d a recovery shift report → Tells (case_of xs d a recovery shift) report
  -- the trigger time is not before T, and is strictly before recovery
  pub triggers_in_time : (recovery S : ℕ) (g : Trigger) → a.trigger ≡ Some g → Times xs d a (Some recovery) (Some S)
      → (d.time ≤ S) × (S < recovery)
  -- without a trigger the windows are not shifted
  pub not_shifted : (S : Option ℕ) (shift : ℤ) → a.trigger ≡ None → shift_in d a S ≡ Some shift → shift ≡ pos 0
  -- with one they are shifted so that a ramp that starts at T and the shift reaches the trigger at the trigger time
  pub shifted_to_ramp : (S : ℕ) (shift : ℤ) (g : Trigger) → a.trigger ≡ Some g → shift_in d a (Some S) ≡ Some shift
      → (pos d.time +ℤ shift +ℤ pos (ramp_time a.settings.response.rate.mhz_per_s g)) ≡ pos S
  -- an amount bars a delivery exactly if it is below 0 or above 1,000,000,000 W
  pub amount_bars : (recovery S : Option ℕ) → Times xs d a recovery S
      → ExactlyIf (Bars xs d a (refusal AmountOutside 0 0)) ((a.amount <ℤ pos 0) ⊎ (pos 1000000000 <ℤ a.amount))
  -- a delivery is barred for its base exactly if no sample lies in the base window
  pub no_base_bars : (recovery S : Option ℕ) → Times xs d a recovery S
      → ExactlyIf (Bars xs d a (refusal NoBaseSample 0 0)) ((p : Point) → IsBaseSample xs d a p → ⊥)
  -- targets that cover T and every base sample, the first and the last of their times included, bar nothing
  pub covering_passes : Covers (targets_of a) d.time
      → ((p : Point) → IsBaseSample xs d a p → Covers (targets_of a) p.time)
      → Bars xs d a (refusal OutsideTargets 0 0) → ⊥
  -- targets that begin after T, or end before it, bar a delivery
  pub all_after_bars : (recovery S : Option ℕ) → Times xs d a recovery S → WithTargets a
      → EachTarget a (λ g. d.time < g.time) → Bars xs d a (refusal OutsideTargets 0 0)
  pub all_before_bars : (recovery S : Option ℕ) → Times xs d a recovery S → WithTargets a
      → EachTarget a (λ g. g.time < d.time) → Bars xs d a (refusal OutsideTargets 0 0)
  -- and so do targets that begin after a base sample, or end before it
  pub all_after_base_bars : (recovery S : Option ℕ) (p : Point) → Times xs d a recovery S → WithTargets a
      → IsBaseSample xs d a p → EachTarget a (λ g. p.time < g.time) → Bars xs d a (refusal OutsideTargets 0 0)
  pub all_before_base_bars : (recovery S : Option ℕ) (p : Point) → Times xs d a recovery S → WithTargets a
      → IsBaseSample xs d a p → EachTarget a (λ g. g.time < p.time) → Bars xs d a (refusal OutsideTargets 0 0)

-- of every record with its disturbance, and whatever is asked
abbrev pub FigureIsOfWhatIsAsked : Type 0
FigureIsOfWhatIsAsked = (xs : List Sample) (d : Disturbance) (a : Asked) → AskedLaws xs d a
