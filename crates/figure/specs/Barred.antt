-- What bars a delivery, in whatever order.
use Rattle.std.specs.Prelude.{◌≡◌, ℕ, ◌⊎◌, List, [], ◌∷◌, Option, Result, MatchResult}
use Rattle.recording.specs.declared.refusal.Refusal.{Refusal}
use Rattle.timeline.specs.Checks.{Fault}
use Rattle.recording.specs.declared.sample.Sample.{Sample}
use Rattle.disturbance.specs.declared.disturbance.Disturbance.{Disturbance}
use Rattle.figure.specs.declared.report.Report.{Report}
use Rattle.figure.specs.Asked.{Asked, Times}
use Rattle.figure.specs.Defects.{defects}

-- one of the faults applies, and this is its answer
abbrev pub OneApplies : {A : Type 0} → List (Fault A) → A → Type 0
OneApplies [] answer = ⊥
OneApplies (f ∷ fs) answer = (f.Applies × (answer ≡ f.answer)) ⊎ OneApplies fs answer

-- a defect of what is asked applies, with this refusal
pub record Bars (xs : List Sample) (d : Disturbance) (a : Asked) (f : Refusal) : Type 0 where
  pub recovery : Option ℕ
  pub trigger_time : Option ℕ
  pub times : Times xs d a recovery trigger_time
  pub applies : OneApplies (defects xs d a recovery trigger_time) f

-- r is refused exactly where a defect applies, and with the refusal of one that does
abbrev pub RefusedExactly : List Sample → Disturbance → Asked → Result Report Refusal → Type 0
RefusedExactly xs d a r = MatchResult r (λ report. (f : Refusal) → Bars xs d a f → ⊥) (Bars xs d a)
