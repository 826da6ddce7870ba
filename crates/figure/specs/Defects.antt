-- What bars a delivery, in the checking order.
use Rattle.std.specs.Prelude.{◌≡◌, ℕ, ◌-◌, ◌<◌, ◌≤◌, ◌⊎◌, List, [], ◌∷◌, length, ℤ, pos, ◌<ℤ◌, Some, Option, slice_index_or}
use Rattle.std.specs.Int.{int_max, int_min}
use Rattle.std.specs.List.{AllByRecursion}
use Rattle.recording.specs.declared.refusal.Reason.{Reason}
use Rattle.recording.specs.declared.refusal.Reason.TheVariants.{AmountOutside, OtherDirection, OtherTargets, NoBaseSample, OutsideTargets, NoTriggerTime, EmptyFirstWindow, WindowOutside, WideGap}
use Rattle.recording.specs.declared.refusal.Refusal.{Refusal}
use Rattle.recording.specs.declared.sample.Sample.{Sample}
use Rattle.recording.specs.Refusals.{refusal}
use Rattle.recording.specs.Samples.{greatest_power}
use Rattle.timeline.specs.declared.target.Target.{Target}
use Rattle.timeline.specs.Checks.{Fault}
use Rattle.timeline.specs.Orders.{Sound}
use Rattle.timeline.specs.Targets.{targets}
use Rattle.disturbance.specs.declared.disturbance.Disturbance.{Disturbance}
use Rattle.disturbance.specs.declared.direction.Direction.{Direction}
use Rattle.disturbance.specs.Trace.{at}
use Rattle.disturbance.specs.Trigger.{Triggered}
use Rattle.response.specs.declared.service.Side.{Side}
use Rattle.response.specs.declared.setup.Trigger.{Trigger}
use Rattle.response.specs.Services.{direction_of}
use Rattle.figure.specs.declared.point.Point.{Point}
use Rattle.figure.specs.declared.span.Span.{Span}
use Rattle.figure.specs.Windows.{Empty}
use Rattle.figure.specs.Asked.{Asked, base_samples, targets_of, shift_in, first_span, second_span}

-- the enabled amount is not from 0 to 1,000,000,000 W
abbrev pub BadAmount : ℤ → Type 0
BadAmount amount = (amount <ℤ pos 0) ⊎ (greatest_power <ℤ amount)

-- the service belongs to the other direction
abbrev pub WrongSide : Side → Direction → Type 0
WrongSide side d = direction_of side ≡ d → ⊥

-- the targets' table has fewer places than the count, or its counted entries break the limits or the order
abbrev pub BadTargets : ℕ → List Target → Type 0
BadTargets count table = Sound targets count table → ⊥

-- the time t lies before the first target, which is before every one, or after the last
abbrev pub Missed : List Target → ℕ → Type 0
Missed gs t = AllByRecursion (λ g. t < g.time) gs ⊎ AllByRecursion (λ g. g.time < t) gs

-- one of the points is at a time that the targets miss
abbrev pub OneMissed : List Target → List Point → Type 0
OneMissed gs points = (k : ℕ) × (k < length points) × ((p : Point) → Missed gs (slice_index_or points k p).time)

-- with targets, the time T or a base point lies before the first target or after the last
abbrev pub MissedByTargets : List Target → ℕ → List Point → Type 0
MissedByTargets gs T base = (0 < length gs) × (Missed gs T ⊎ OneMissed gs base)

-- the rule has a trigger, and there is no time at which it is reached before any recovery
pub record NeverTriggered (xs : List Sample) (d : Disturbance) (recovery : Option ℕ) (trigger : Option Trigger) : Type 0 where
  pub dip : Trigger
  pub has : trigger ≡ Some dip
  pub never : (t : ℕ) → Triggered xs d recovery dip.dip t → ⊥

-- a window that is not empty begins before the first sample, which is before every one, or ends after the last
abbrev pub Beyond : List Sample → Span → Type 0
Beyond xs w = (Empty w → ⊥) × (AllByRecursion (λ s. w.start <ℤ pos s.time) xs ⊎ AllByRecursion (λ s. pos s.time <ℤ w.end) xs)

-- two samples share more than an instant with a window
abbrev pub Shares : Sample → Sample → Span → Type 0
Shares a b w = int_max (pos a.time) w.start <ℤ int_min (pos b.time) w.end

-- neighbouring samples that do are further apart than the widest gap
pub record Gapped (xs : List Sample) (widest : ℕ) (w : Span) : Type 0 where
  pub place : ℕ
  pub later : 1 ≤ place
  pub there : place < length xs
  pub shares : Shares (at xs (place - 1)) (at xs place) w
  pub wide : widest < (at xs place).time - (at xs (place - 1)).time

-- there is a shift, and P holds at it
abbrev pub AtShift : Option ℤ → (ℤ → Type 0) → Type 0
AtShift shift P = (z : ℤ) × (shift ≡ Some z) × P z

-- a defect, and the refusal that it gives: it has no place of its own
abbrev pub defect : Type 0 → Reason → Fault Refusal
defect applies why = record { Applies = applies; answer = refusal why 0 0 }

module _ (xs : List Sample) (d : Disturbance) (a : Asked) (recovery S : Option ℕ) where
  -- there is a shift, and at it P holds of the first window, or of either
  abbrev pub FirstWindow : (Span → Type 0) → Type 0
  FirstWindow P = AtShift (shift_in d a S) (λ z. P (first_span d a recovery z))

  abbrev pub EitherWindow : (Span → Type 0) → Type 0
  EitherWindow P = AtShift (shift_in d a S) (λ z. P (first_span d a recovery z) ⊎ P (second_span d a recovery z))

  -- the defects of a delivery in the checking order
  abbrev pub defects : List (Fault Refusal)
  defects =
      defect (BadAmount a.amount) AmountOutside
      ∷ defect (WrongSide a.side d.direction) OtherDirection
      ∷ defect (BadTargets a.count a.table) OtherTargets
      ∷ defect (base_samples xs d a ≡ []) NoBaseSample
      ∷ defect (MissedByTargets (targets_of a) d.time (base_samples xs d a)) OutsideTargets
      ∷ defect (NeverTriggered xs d recovery a.trigger) NoTriggerTime
      ∷ defect (FirstWindow Empty) EmptyFirstWindow
      ∷ defect (EitherWindow (Beyond xs)) WindowOutside
      ∷ defect (EitherWindow (Gapped xs a.row.widest_gap)) WideGap
      ∷ []
