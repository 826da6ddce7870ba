-- The third defect applies, or the fifth, or none does: the earlier ones have been passed.
use Rattle.std.proofs.Common.{◌≡◌, ℕ, false, List, [], ◌∷◌, take, ℤ, Decides, Option, Result, Some, IfOk, Ok, Err, refl, ap, subst, inl, inr, w64, SFits, to_z, of_z, rules}
use Rattle.std.specs.Result.{IsErrAnd, result_err}
use Rattle.std.proofs.lemmas.Int.{to_z-of_z}
use Rattle.std.proofs.lemmas.Bool.Decides.{not_from_Decides}
use Rattle.recording.specs.declared.refusal.Reason.{Reason}
use Rattle.recording.specs.declared.refusal.Refusal.{Refusal}
use Rattle.recording.specs.declared.refusal.Reason.TheVariants.{OtherTargets, NoBaseSample, OutsideTargets}
use Rattle.timeline.specs.declared.target.Target.{Target}
use Rattle.timeline.specs.Checks.{FirstFault}
use Rattle.timeline.specs.Orders.{Sound}
use Rattle.timeline.specs.Targets.{targets}
use Rattle.figure.specs.Defects.{defect, BadAmount, WrongSide, BadTargets, MissedByTargets}
use Rattle.delivery.specs.Checking.{early_defects}
use Rattle.delivery.specs.declared.footing.Footing.{Footing}
use Rattle.response.specs.declared.service.Side.{Side}
use Rattle.delivery.specs.Footings.{points_on}
use Rattle.delivery.proofs.defects.early_defect.Goals as goal

err_is : {T : Type 0} (r : Result T Reason) (why : Reason) → IsErrAnd r (λ e. e ≡ why) → result_err r ≡ Some why
err_is (Ok x) why e = absurd e
err_is (Err f) why e = ap (λ (w : Reason). Some w) e

none_found : {T : Type 0} (r : Result T Reason) (P : T → Type 0) (Q : Reason → Type 0) → IsErrAnd r Q → IfOk r P
none_found (Ok x) P Q e = absurd e
none_found (Err f) P Q e = tt

-- the amount and the side have been passed: what is found from the targets on, and from the base samples that they miss on
module _ (g : Footing) (table : List Target) (count : ℕ) (side : Side) (watts : ℤ) (fits : SFits w64 watts) (amount : Decides false (BadAmount (to_z w64 (of_z w64 watts)))) (ours : Decides false (WrongSide side g.disturbance.direction)) where
  abbrev found : Option Refusal → Type 0
  found r = FirstFault (early_defects g.trace.samples.now g.disturbance g.window table count side watts) r

  from_targets : (r : Option Refusal) → FirstFault (defect (BadTargets count table) OtherTargets ∷ defect (points_on g ≡ []) NoBaseSample ∷ defect (MissedByTargets (take count table) g.disturbance.time (points_on g)) OutsideTargets ∷ []) r → found r
  from_targets r h = inr (subst (λ (a : ℤ). BadAmount a → ⊥) (to_z-of_z w64 watts fits) (not_from_Decides false amount refl), inr (not_from_Decides false ours refl, h))

  from_missed : Sound targets count table → Decides false (points_on g ≡ []) → (gs : List Target) → gs ≡ take count table → (r : Option Refusal) → FirstFault (defect (MissedByTargets gs g.disturbance.time (points_on g)) OutsideTargets ∷ []) r → found r
  from_missed sound base gs e r h = from_targets r (inr ((λ bad. bad sound), inr (not_from_Decides false base refl, subst (λ (hs : List Target). FirstFault (defect (MissedByTargets hs g.disturbance.time (points_on g)) OutsideTargets ∷ []) r) e h)))

pub returns-then-is_missed : goal.returns-then-is_missed
returns-then-is_missed c =
    let z : SFits w64 c.args.watts = search rules in
    record {
      defect = from_missed c.args.footing c.args.table.now c.args.count c.args.side c.args.watts z c.if-is_bad_amount.ensures c.if-is_wrong_side.ensures c.in_ok-targets.ensures.0 c.if-lacks_base.ensures _ c.in_ok-targets.ensures.1 _ (inl (c.if-is_missed.ensures.0 refl, refl));
      counted = tt;
    }

pub returns : goal.returns
returns c =
    let z : SFits w64 c.args.watts = search rules in
    record {
      defect = from_missed c.args.footing c.args.table.now c.args.count c.args.side c.args.watts z c.if-is_bad_amount.ensures c.if-is_wrong_side.ensures c.in_ok-targets.ensures.0 c.if-lacks_base.ensures _ c.in_ok-targets.ensures.1 _ (inr (not_from_Decides false c.if-is_missed.ensures refl, refl));
      counted = c.in_ok-targets.ensures.1;
    }
