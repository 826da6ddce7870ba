-- A delivery is refused exactly where a defect applies.
use Rattle.std.proofs.Common.{◌≡◌, ℕ, List, [], ◌∷◌, Some, None, Ok, Err, Option, Result, inl, inr, subst}
use Rattle.recording.specs.declared.refusal.Refusal.{Refusal}
use Rattle.timeline.specs.Checks.{Fault, FirstFault}
use Rattle.recording.specs.declared.sample.Sample.{Sample}
use Rattle.disturbance.specs.declared.disturbance.Disturbance.{Disturbance}
use Rattle.figure.specs.declared.report.Report.{Report}
use Rattle.figure.specs.Asked.{Asked, Times}
use Rattle.figure.specs.Defects.{defects}
use Rattle.figure.specs.Barred.{OneApplies, Bars, RefusedExactly}
use Rattle.figure.specs.Reports.{AnswerIs}
use Rattle.figure.specs.Laws.{RefusedByDefects}
use Rattle.figure.proofs.Once.{recovery_once, trigger_time_once}

-- the first that applies is one that applies
first_applies : {A : Type 0} (fs : List (Fault A)) (answer : A) → FirstFault fs (Some answer) → OneApplies fs answer
first_applies [] answer h = absurd (cc)
first_applies (f ∷ fs) answer (inl (h, e)) = inl (h, cc)
first_applies (f ∷ fs) answer (inr (n, h)) = inr (first_applies fs answer h)

-- where none is the first, none applies
pub none_applies : {A : Type 0} (fs : List (Fault A)) (answer : A) → FirstFault fs None → OneApplies fs answer → ⊥
none_applies [] answer h o = o
none_applies (f ∷ fs) answer (inl (a, e)) o = absurd (cc)
none_applies (f ∷ fs) answer (inr (n, h)) (inl (a, e)) = n a
none_applies (f ∷ fs) answer (inr (n, h)) (inr o) = none_applies fs answer h o

module _ (xs : List Sample) (d : Disturbance) (a : Asked) where
  unbarred : (recovery S : Option ℕ) → Times xs d a recovery S → FirstFault (defects xs d a recovery S) None → (f : Refusal) → Bars xs d a f → ⊥
  unbarred recovery S times none f b =
      let recovers = recovery_once xs d a b.recovery recovery b.trigger_time S b.times times in
      let triggers = trigger_time_once xs d a b.recovery recovery b.trigger_time S b.times times in
      none_applies (defects xs d a recovery S) f none (subst (λ (o : Option ℕ). OneApplies (defects xs d a o S) f) recovers (subst (λ (o : Option ℕ). OneApplies (defects xs d a b.recovery o) f) triggers b.applies))

  by_defects : (recovery S : Option ℕ) (defect : Option Refusal) (r : Result Report Refusal) → Times xs d a recovery S → FirstFault (defects xs d a recovery S) defect → AnswerIs xs d a recovery S defect r
      → RefusedExactly xs d a r
  by_defects recovery S (Some first) (Ok report) times h answer = absurd (cc)
  by_defects recovery S (Some first) (Err f) times h answer =
      let same : first ≡ f = cc in
      record { recovery = recovery; trigger_time = S; times = times; applies = subst (OneApplies (defects xs d a recovery S)) same (first_applies (defects xs d a recovery S) first h) }
  by_defects recovery S None (Ok report) times first answer = unbarred recovery S times first
  by_defects recovery S None (Err f) times first (z, report, shifted, is, reports) = absurd (cc)

pub refused_by_defects : RefusedByDefects
refused_by_defects xs d a r given = by_defects xs d a given.recovery given.trigger_time given.defect r given.times given.first given.answer
