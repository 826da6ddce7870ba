-- A push and what it is raised by.
use Rattle.std.proofs.Common.{◌≡◌, ◌∙◌, ℤ, pos, ◌+ℤ◌, ◌-ℤ◌, sym, refl, ap, subst, arith, to_z, of_z}
use mir.Syntax.{w128}
use Rattle.std.specs.Int.{int_max}
use Rattle.std.proofs.lemmas.Int.{to_z-of_z}
use Rattle.exact.specs.Wholes.{Is}
use Rattle.exact.specs.Limits.{Within}
use Rattle.exact.proofs.Limits.{within_fits, within_more, within-+, within--}
use Rattle.figure.specs.Steps.{base_push, to_half_up}
use Rattle.delivery.specs.Footings.{case_on}
use Rattle.delivery.proofs.Held.{Held, held, HeldSum, held_sum}
use Rattle.std.proofs.lemmas.Bool.{eqb-true}
use Rattle.delivery.proofs.Basing.{some_there, level_is, raised_is, rise_within}
use Rattle.delivery.specs.Limits.{widest_base, widest_height, widest_rise}
use Rattle.delivery.proofs.base.base_push.Goals as goal

-- the power as the code holds it
pushed : {r : ℤ} → Within widest_height r → Held widest_height r r
pushed h = held (omega arith) refl h

pub returns-then-is_empty : goal.returns-then-is_empty
returns-then-is_empty c =
    let on = case_on c.args.footing c.args.targets.all.now in
    let p = pushed c.power-pushed.ensures.within in
    record {
      is = subst (λ (x : ℤ). Is (base_push to_half_up on c.args.point) x 1) (sym p.is) (level_is on c.args.point _ c.power-pushed.ensures.is (eqb-true _ 0 (sym c.is_empty.ensures ∙ c.if-is_empty.true)));
      within = within_more (omega arith) p.within;
    }

-- the rise between two heights: m is the greater of 0 and their difference, as the code holds it
rise : {a b m : ℤ} → Within widest_height a → Within widest_height b → m ≡ int_max (to_z w128 (of_z w128 (to_z w128 (of_z w128 a) -ℤ to_z w128 (of_z w128 b)))) (pos 0) → Held widest_rise m (int_max (a -ℤ b) (pos 0))
rise {a} {b} {m} h k e =
    let fit-a = within_fits {z = a} (omega arith) h in
    let fit-b = within_fits {z = b} (omega arith) k in
    let fit-d = within_fits {z = a -ℤ b} (omega arith) (within-- h k) in
    let f : m ≡ int_max (a -ℤ b) (pos 0) = simp to_z-of_z at e in
    held (omega arith) f (subst (Within widest_rise) (sym f) (rise_within a b h k))

sum : (c : goal.After-max) → HeldSum widest_base (to_z w128 (of_z w128 c.power-pushed.result)) c.max.result (c.power-pushed.result +ℤ int_max (c.trajectory-there.result -ℤ c.trajectory-here.result) (pos 0))
sum c =
    let p = pushed c.power-pushed.ensures.within in
    let m = rise c.trajectory-there.ensures.within c.trajectory-here.ensures.within c.max.ensures.value in
    held_sum (omega arith) m.is (ap (λ (x : ℤ). x +ℤ int_max (c.trajectory-there.result -ℤ c.trajectory-here.result) (pos 0)) p.is)
    (within_more (omega arith) (within-+ p.within (rise_within _ _ c.trajectory-there.ensures.within c.trajectory-here.ensures.within)))

pub overflow_add-result : goal.overflow_add-result
overflow_add-result c = (sum c).fits

pub returns : goal.returns
returns c =
    let on = case_on c.args.footing c.args.targets.all.now in
    record {
      is = subst (λ (x : ℤ). Is (base_push to_half_up on c.args.point) x 1) (sym (sum c).is)
          (raised_is on c.args.point _ c.power-pushed.ensures.is _ _ (some_there _ (sym c.is_empty.ensures ∙ c.if-is_empty.false)) c.trajectory-there.ensures.is c.trajectory-here.ensures.is);
      within = (sum c).within;
    }
