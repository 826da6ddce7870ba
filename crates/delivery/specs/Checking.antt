-- The defects as the code looks for them: those that ask nothing of recovery and windows, and those of two windows on the
-- clock of the record.
use Rattle.std.specs.Prelude.{◌≡◌, ℕ, ◌⊎◌, List, [], ◌∷◌, take, ℤ, Option, option_map}
use Rattle.recording.specs.declared.refusal.Reason.{Reason}
use Rattle.recording.specs.declared.refusal.Reason.TheVariants.{AmountOutside, OtherDirection, OtherTargets, NoBaseSample, OutsideTargets, EmptyFirstWindow, WindowOutside, WideGap}
use Rattle.recording.specs.declared.refusal.Refusal.{Refusal}
use Rattle.recording.specs.Refusals.{refusal}
use Rattle.recording.specs.declared.sample.Sample.{Sample}
use Rattle.timeline.specs.declared.target.Target.{Target}
use Rattle.timeline.specs.Checks.{Fault}
use Rattle.disturbance.specs.declared.disturbance.Disturbance.{Disturbance}
use Rattle.response.specs.declared.base.BaseWindow.{BaseWindow}
use Rattle.response.specs.declared.service.Side.{Side}
use Rattle.figure.specs.declared.span.Span.{Span}
use Rattle.figure.specs.Points.{course}
use Rattle.figure.specs.Steps.{base_points}
use Rattle.figure.specs.Windows.{Empty}
use Rattle.figure.specs.Defects.{defect, BadAmount, WrongSide, BadTargets, MissedByTargets, Beyond, Gapped}

-- the refusal for a reason, which has no place of its own
abbrev pub unplaced : Option Reason → Option Refusal
unplaced r = option_map (λ why. refusal why 0 0) r

abbrev pub early_defects : List Sample → Disturbance → BaseWindow → List Target → ℕ → Side → ℤ → List (Fault Refusal)
early_defects xs d base table count side amount =
    defect (BadAmount amount) AmountOutside
    ∷ defect (WrongSide side d.direction) OtherDirection
    ∷ defect (BadTargets count table) OtherTargets
    ∷ defect (base_points d.time base (course d.direction xs) ≡ []) NoBaseSample
    ∷ defect (MissedByTargets (take count table) d.time (base_points d.time base (course d.direction xs))) OutsideTargets
    ∷ []

abbrev pub span_defects : List Sample → ℕ → Span → Span → List (Fault Refusal)
span_defects xs widest first second =
    defect (Empty first) EmptyFirstWindow
    ∷ defect (Beyond xs first ⊎ Beyond xs second) WindowOutside
    ∷ defect (Gapped xs widest first ⊎ Gapped xs widest second) WideGap
    ∷ []
