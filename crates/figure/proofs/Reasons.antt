-- Defects by the reasons that they are refused for: a proof asks for one by its reason, whatever its place in the checking order.
use Rattle.std.proofs.Common.{◌≡◌, ℕ, ◌⊎◌, List, [], ◌∷◌, Some, None, Option, sym, refl, subst, inl, inr}
use Rattle.recording.specs.declared.refusal.Reason.{Reason}
use Rattle.recording.specs.declared.refusal.Reason.TheVariants.{AmountOutside, OtherDirection, OtherTargets, NoBaseSample, OutsideTargets, NoTriggerTime, EmptyFirstWindow, WindowOutside, WideGap}
use Rattle.recording.specs.declared.refusal.Refusal.{Refusal}
use Rattle.recording.specs.Refusals.{refusal}
use Rattle.timeline.specs.Checks.{Fault, FirstFault}
use Rattle.recording.specs.declared.sample.Sample.{Sample}
use Rattle.disturbance.specs.declared.disturbance.Disturbance.{Disturbance}
use Rattle.figure.specs.Windows.{Empty}
use Rattle.figure.specs.Asked.{Asked, base_samples, targets_of}
use Rattle.figure.specs.Defects.{BadAmount, WrongSide, BadTargets, MissedByTargets, NeverTriggered, Beyond, Gapped, FirstWindow, EitherWindow, defects}
use Rattle.figure.specs.Barred.{OneApplies}
use Rattle.figure.proofs.Barred.{none_applies}

module _ (xs : List Sample) (d : Disturbance) (a : Asked) (recovery S : Option ℕ) where
  -- what a reason says of what is asked
  abbrev pub Says : Reason → Type 0
  Says AmountOutside = BadAmount a.amount
  Says OtherDirection = WrongSide a.side d.direction
  Says OtherTargets = BadTargets a.count a.table
  Says NoBaseSample = base_samples xs d a ≡ []
  Says OutsideTargets = MissedByTargets (targets_of a) d.time (base_samples xs d a)
  Says NoTriggerTime = NeverTriggered xs d recovery a.trigger
  Says EmptyFirstWindow = FirstWindow xs d a recovery S Empty
  Says WindowOutside = EitherWindow xs d a recovery S (Beyond xs)
  Says WideGap = EitherWindow xs d a recovery S (Gapped xs a.row.widest_gap)
  Says other = ⊥

  -- where a reason says so, its defect applies
  pub applies_for : (why : Reason) → Says why → OneApplies (defects xs d a recovery S) (refusal why 0 0)
  applies_for AmountOutside h = inl (h, refl)
  applies_for OtherDirection h = inr (inl (h, refl))
  applies_for OtherTargets h = inr (inr (inl (h, refl)))
  applies_for NoBaseSample h = inr (inr (inr (inl (h, refl))))
  applies_for OutsideTargets h = inr (inr (inr (inr (inl (h, refl)))))
  applies_for NoTriggerTime h = inr (inr (inr (inr (inr (inl (h, refl))))))
  applies_for EmptyFirstWindow h = inr (inr (inr (inr (inr (inr (inl (h, refl)))))))
  applies_for WindowOutside h = inr (inr (inr (inr (inr (inr (inr (inl (h, refl))))))))
  applies_for WideGap h = inr (inr (inr (inr (inr (inr (inr (inr (inl (h, refl)))))))))
  applies_for other h = absurd h

  -- and where a defect applies, its reason says so: each fault of the list is what its answer says
  abbrev Each : List (Fault Refusal) → Type 0
  Each [] = Unit {0}
  Each (f ∷ fs) = (f.Applies → Says f.answer.reason) × Each fs

  one_says : (fs : List (Fault Refusal)) → Each fs → (f : Refusal) → OneApplies fs f → Says f.reason
  one_says [] h f none = absurd none
  one_says (g ∷ fs) h f (inl (applies, e)) = subst (λ (x : Refusal). Says x.reason) (sym e) (h.0 applies)
  one_says (g ∷ fs) h f (inr rest) = one_says fs h.1 f rest

  each : Each (defects xs d a recovery S)
  each = ((λ h. h), ((λ h. h), ((λ h. h), ((λ h. h), ((λ h. h), ((λ h. h), ((λ h. h), ((λ h. h), ((λ h. h), tt)))))))))

  pub says : (f : Refusal) → OneApplies (defects xs d a recovery S) f → Says f.reason
  says f h = one_says (defects xs d a recovery S) each f h

  -- ---- no defect applies
  abbrev pub Clear : Type 0
  Clear = (why : Reason) → Says why → ⊥

  pub cleared : FirstFault (defects xs d a recovery S) None → Clear
  cleared none why h = none_applies (defects xs d a recovery S) (refusal why 0 0) none (applies_for why h)

  -- ---- none applies that comes before the gap
  abbrev pub Passed : Type 0
  Passed = (why : Reason) → (why ≡ WideGap → ⊥) → Says why → ⊥

  only_gap : (r : Option Refusal) → Passed → (Says WideGap × (r ≡ Some (refusal WideGap 0 0))) ⊎ ((Says WideGap → ⊥) × (r ≡ None)) → FirstFault (defects xs d a recovery S) r
  only_gap r p last = inr (
    p AmountOutside (λ e. cc),
    inr (
      p OtherDirection (λ e. cc),
      inr (
        p OtherTargets (λ e. cc),
        inr (
          p NoBaseSample (λ e. cc),
          inr (
            p OutsideTargets (λ e. cc),
            inr (p NoTriggerTime (λ e. cc), inr (p EmptyFirstWindow (λ e. cc), inr (p WindowOutside (λ e. cc), last))),
          ),
        ),
      ),
    ),
  )

  pub none_of : Passed → (Says WideGap → ⊥) → FirstFault (defects xs d a recovery S) None
  none_of p close = only_gap None p (inr (close, refl))

  pub gap_first : Passed → Says WideGap → FirstFault (defects xs d a recovery S) (Some (refusal WideGap 0 0))
  gap_first p wide = only_gap _ p (inl (wide, refl))
