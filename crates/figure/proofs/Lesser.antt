-- The lesser of two values.
use Rattle.std.proofs.Common.{◌≡◌, Bool, true, false, cond, ◌⊎◌, ⊎_elim, inl, inr, refl, Some, None, Option, arith}
use Rattle.exact.specs.Fractions.{Fraction, ◌≼◌, ◌≺◌, at_most, lesser}
use Rattle.exact.proofs.Naturals.{reads_self, ≼-in, at_most_yes, at_most_so}
use Rattle.exact.proofs.Near.{near_refl, near_equal}
use Rattle.exact.proofs.Order.{≼-or-≺}
use Rattle.exact.proofs.Lines.{≺-out}
use Rattle.response.specs.declared.group.Window.{Window}
use Rattle.figure.specs.Steps.{Rounding, Case, value, delivery}
use Rattle.figure.specs.StepLaws.{LesserOfBoth}

same : {x y : Fraction} → x ≡ y → x ≼ y
same {x} {y} e = (near_equal (rw e (near_refl {x = y}))).0

lesser_is : (x y : Fraction) → (lesser x y ≼ x) × (lesser x y ≼ y) × ((lesser x y ≡ x) ⊎ (lesser x y ≡ y))
lesser_is x y = by (at_most x y) refl
  where
    by : (b : Bool) → at_most x y ≡ b → (cond b x y ≼ x) × (cond b x y ≼ y) × ((cond b x y ≡ x) ⊎ (cond b x y ≡ y))
    by true e = (same refl, at_most_yes x y e, inl refl)
    by false e = (⊎_elim (λ h. absurd (true_is_false (at_most_so x y h) e)) (λ h. less h) (≼-or-≺ x y), same refl, inr refl)
      where
        true_is_false : {b : Bool} → b ≡ true → b ≡ false → ⊥
        true_is_false h k = cc

        less : y ≺ x → y ≼ x
        less h = ≼-in reads_self reads_self (omega (arith, ≺-out reads_self reads_self h))

module _ (r : Rounding) (c : Case) where
  both : (w : Window) → c.second ≡ Some w → (delivery r c ≼ value r c c.first) × (delivery r c ≼ value r c w) × ((delivery r c ≡ value r c c.first) ⊎ (delivery r c ≡ value r c w))
  both w e = rw e (lesser_is (value r c c.first) (value r c w))

  alone : c.second ≡ None → delivery r c ≡ value r c c.first
  alone e = rw e refl

  at_most_first : (second : Option Window) → c.second ≡ second → delivery r c ≼ value r c c.first
  at_most_first None e = same (alone e)
  at_most_first (Some w) e = (both w e).0

  pub lesser_of_both : LesserOfBoth r c
  lesser_of_both = record {
    at_most_first = at_most_first c.second refl;
    at_most_second = λ w e. (both w e).1;
    one_of_both = λ w e. (both w e).2;
    first_alone = alone;
  }
