-- What holds of the figure, in words of its subject.
use Rattle.std.specs.Prelude.{◌≡◌, ℕ, ◌-◌, ◌*◌, ◌<◌, ◌≤◌, List, length, ℤ, pos, ◌-ℤ◌, ◌≤ℤ◌, Some, None, Ok, Decides, Option, Result}
use Rattle.std.specs.List.{AllZip, AllByRecursion}
use Rattle.exact.specs.First.{First, FirstOrNone}
use Rattle.exact.specs.Fractions.{Fraction, whole, ◌·◌, ◌÷◌}
use Rattle.recording.specs.declared.refusal.Refusal.{Refusal}
use Rattle.recording.specs.declared.sample.Sample.{Sample}
use Rattle.disturbance.specs.Recovery.{Recovered}
use Rattle.disturbance.specs.Trace.{Sound}
use Rattle.disturbance.specs.Trigger.{Before}
use Rattle.response.specs.declared.base.BaseWindow.{BaseWindow}
use Rattle.response.specs.declared.group.Window.{Window}
use Rattle.response.specs.declared.setup.Trigger.{Trigger}
use Rattle.response.specs.Groups.{Sound as SoundRow}
use Rattle.response.specs.Limits.{IsRate}
use Rattle.disturbance.specs.declared.disturbance.Disturbance.{Disturbance}
use Rattle.figure.specs.declared.point.Point.{Point}
use Rattle.figure.specs.declared.report.Report.{Report}
use Rattle.figure.specs.Points.{Rises}
use Rattle.figure.specs.Steps.{Case, to_half_up, is_base, value_of, used, compensated, value}
use Rattle.figure.specs.Windows.{ramp_start, ramp_time, placed, Empty}
use Rattle.figure.specs.Asked.{Asked}
use Rattle.figure.specs.Barred.{RefusedExactly}
use Rattle.figure.specs.Reports.{Delivers}
use Rattle.figure.specs.Exactness.{ExactDelivery, Faithful}

-- ---- what the definitions mean

-- a base point's time lies from T − begin to T − end, both included, and either may be before the clock begins
abbrev pub BaseIsSigned : Type 0
BaseIsSigned = (T : ℕ) (base : BaseWindow) (t : ℕ)
    → Decides (is_base T base t) (((pos T -ℤ pos base.begin) ≤ℤ pos t) × (pos t ≤ℤ (pos T -ℤ pos base.end)))

-- the time of the ramp is the first whole number of milliseconds that takes the dip from the ramp's start to the trigger
abbrev pub RampIsFirst : Type 0
RampIsFirst = (rate : ℕ) (g : Trigger) → IsRate rate → First (λ ms. (g.dip - ramp_start) * 1000 ≤ ms * rate) (ramp_time rate g)

-- recovery is at or before the time t
abbrev pub RecoveredBy : Option ℕ → ℤ → Type 0
RecoveredBy None t = ⊥
RecoveredBy (Some recovery) t = pos recovery ≤ℤ t

-- a window is empty exactly if recovery is at or before its start
pub record EmptyByRecovery : Type 0 where
  pub empty : (T : ℕ) (shift : ℤ) (recovery : Option ℕ) (w : Window) → w.start < w.end → Empty (placed T shift recovery w) → RecoveredBy recovery (placed T shift recovery w).start
  pub recovered : (T : ℕ) (shift : ℤ) (recovery : Option ℕ) (w : Window) → RecoveredBy recovery (placed T shift recovery w).start → Empty (placed T shift recovery w)

-- a compensated response that is level over the used points averages to itself: the value is the multiplier times it
abbrev pub LevelValue : Type 0
LevelValue = (c : Case) (z : ℤ) (w : Window) → Rises (used c) → 0 < length (used c) → w.start < w.end
    → AllByRecursion (λ p. compensated to_half_up c p ≡ whole z) (used c) → value to_half_up c w ≡ to_half_up (whole z · w.multiplier ÷ 100)

-- a level response at any points, of a case or not, averages to itself: the value is the multiplier times it
abbrev pub LevelValueOfAnyPoints : Type 0
LevelValueOfAnyPoints = (z : ℤ) (used : List Point) (w : Window) → Rises used → 0 < length used → w.start < w.end → value_of to_half_up (λ _. whole z) used w ≡ to_half_up (whole z · w.multiplier ÷ 100)

-- ---- what holds of the answers

-- there is one answer to what is asked, and one exact delivery
abbrev pub OneAnswer : Type 0
OneAnswer = (xs : List Sample) (d : Disturbance) (a : Asked) (r s : Result Report Refusal) → Delivers xs d a r
    → Delivers xs d a s → r ≡ s

abbrev pub OneExactDelivery : Type 0
OneExactDelivery = (xs : List Sample) (d : Disturbance) (a : Asked) (x y : Fraction) → ExactDelivery xs d a x
    → ExactDelivery xs d a y → x ≡ y

-- a delivery is refused exactly where a defect applies, and with the refusal of such a defect
abbrev pub RefusedByDefects : Type 0
RefusedByDefects = (xs : List Sample) (d : Disturbance) (a : Asked) (r : Result Report Refusal) → Delivers xs d a r
    → RefusedExactly xs d a r

-- for any sound record and any row of windows that start before they end, are at most 900,000 ms long and count once or twice: the delivery is less than one watt from the exact delivery, and the verdict is fair
abbrev pub ReportsAreFaithful : Type 0
ReportsAreFaithful = (xs : List Sample) (d : Disturbance) (a : Asked) (report : Report) → Sound xs → SoundRow a.row
    → Delivers xs d a (Ok report) → Faithful xs d a report

-- two samples are alike but for the power at or after recovery
pub record AlikeBefore (recovery : Option ℕ) (s t : Sample) : Type 0 where
  pub time : s.time ≡ t.time
  pub frequency : s.frequency ≡ t.frequency
  pub power : Before recovery s.time → s.power ≡ t.power

-- the powers of the samples at or after recovery can be changed at will, and every report and refusal stays
abbrev pub PowerAfterRecovery : Type 0
PowerAfterRecovery = (xs : List Sample) (d : Disturbance) (a : Asked) (recovery : Option ℕ)
    → FirstOrNone (Recovered xs d) recovery
    → (ys : List Sample) → AllZip (AlikeBefore recovery) xs ys → (r : Result Report Refusal) → Delivers xs d a r
    → Delivers ys d a r

pub record FigureLaws : Type 0 where
  pub base_is_signed : BaseIsSigned
  pub ramp_is_first : RampIsFirst
  pub empty_by_recovery : EmptyByRecovery
  pub level_value : LevelValue
  pub level_value_of_any_points : LevelValueOfAnyPoints
  pub one_answer : OneAnswer
  pub one_exact_delivery : OneExactDelivery
  pub refused_by_defects : RefusedByDefects
  pub reports_are_faithful : ReportsAreFaithful
  pub power_after_recovery : PowerAfterRecovery
