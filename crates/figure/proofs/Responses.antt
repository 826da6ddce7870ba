-- The weighed response, before and after the disturbance time, and where it and the values of windows are rounded.
use Rattle.std.proofs.Common.{◌≡◌, ℕ, ◌-◌, ◌<◌, ◌≤◌, Bool, cond, List, length, ℤ, pos, ◌-ℤ◌, ◌*ℤ◌, sym, refl, ap, ◌∙◌, subst, arith}
use borrow.Author.Differences.{ints}
use Rattle.std.specs.List.{AllByRecursion}
use Rattle.std.proofs.lemmas.Bool.{le-ltb, lt-ltb}
use Rattle.exact.specs.Fractions.{Fraction, whole, ◌⊖◌, ◌·◌, ◌÷◌, Equal}
use Rattle.exact.specs.Rounding.{half_up}
use Rattle.exact.proofs.Naturals.{reads_self, reads_whole, reads_whole_times, reads-⊖, reads-·}
use Rattle.exact.proofs.Near.{Near, near_trans, near-÷, near_same, near_equal, equal_near}
use Rattle.exact.proofs.Order.{reads_by}
use Rattle.exact.proofs.Rounding.{half_up_value}
use Rattle.exact.proofs.Wholes.{half_up_of_whole}
use Rattle.response.specs.Weights.{Factor, one}
use Rattle.response.specs.declared.group.Window.{Window}
use Rattle.figure.specs.declared.point.Point.{Point}
use Rattle.figure.specs.Points.{Rises}
use Rattle.figure.specs.Steps.{Case, to_half_up, unrounded, hundredths, weighed, value_of, weight, used, response, compensated, value}
use Rattle.figure.specs.StepLaws.{Rounded, Weighed, factor_at, ResponseLaws, average_in, ValueLaws}
use Rattle.figure.proofs.Curves.{value_is}
use Rattle.figure.proofs.Targets.{rounded_half_up, rounded_equal}
use Rattle.figure.proofs.Meanings.{level_value, level_value_of_any_points}

-- ---- a fraction times a factor
times_factor : (x : Fraction) (w : Factor) → Near 0 (weighed x w · w.d) (x · w.n)
times_factor x w = near_same (reads-· w.d (reads_by w.d w.above (reads-· w.n reads_self))) (reads-· w.n reads_self) (omega arith)

-- there is one, however it is written
over_factor : (y x : Fraction) (w : Factor) → Weighed w y x → Near 0 x (weighed y w)
over_factor y x w h =
    near_trans {n = 0} {m = 0} (near_same reads_self (reads_by w.d w.above (reads-· w.d reads_self)) (omega arith)) (near-÷ {n = 0} w.d (omega arith) (equal_near h))

once : (x : Fraction) → Near 0 (weighed x one) x
once x = near_same (reads_by 1 (omega arith) (reads-· 1 reads_self)) reads_self (omega arith)

-- ---- the weight at a point
module _ (c : Case) (p : Point) where
  after : c.disturbance ≤ p.time → weight c p ≡ factor_at c p
  after le = ap (λ (b : Bool). cond b one (factor_at c p)) (le-ltb p.time c.disturbance le)

  before : p.time < c.disturbance → weight c p ≡ one
  before less = ap (λ (b : Bool). cond b one (factor_at c p)) (lt-ltb p.time c.disturbance less)

-- ---- a difference of whole numbers is its own half-up
whole_difference : (v w : ℤ) → Near 0 (whole v ⊖ whole w) (whole (v -ℤ w))
whole_difference v w = near_same (reads-⊖ (reads_whole v) (reads_whole w)) (reads_whole (v -ℤ w)) (omega (arith, ints))

half_up_difference : (v w : ℤ) → Near 0 (to_half_up (weighed (whole v ⊖ whole w) one)) (whole v ⊖ whole w)
half_up_difference v w =
    let same = near_equal (near_trans {n = 0} {m = 0} (once (whole v ⊖ whole w)) (whole_difference v w)) in
    let e : half_up (weighed (whole v ⊖ whole w) one) ≡ v -ℤ w = half_up_value _ _ same.0 same.1 ∙ half_up_of_whole (v -ℤ w) in
    let turned = near_equal (whole_difference v w) in
    rw e (equal_near (turned.1, turned.0))

-- ---- the response at a point
module _ (c : Case) (p : Point) where
  from_disturbance : c.disturbance ≤ p.time → Weighed (factor_at c p) (response unrounded c p) (compensated unrounded c p)
  from_disturbance le = rw (after c p le) (near_equal (times_factor (response unrounded c p) (factor_at c p)))

  at_disturbance : p.time ≡ c.disturbance → Weighed (c.weight p.dip 0) (response unrounded c p) (compensated unrounded c p)
  at_disturbance e =
      let none : p.time - c.disturbance ≡ 0 = omega arith in
      subst (λ (offset : ℕ). Weighed (c.weight p.dip offset) (response unrounded c p) (compensated unrounded c p)) none (from_disturbance (omega arith))

  rounded_from_disturbance : (x : Fraction) → c.disturbance ≤ p.time → Weighed (factor_at c p) (response to_half_up c p) x → Rounded x (compensated to_half_up c p)
  rounded_from_disturbance x le h =
      subst (λ (w : Factor). Rounded x (to_half_up (weighed (response to_half_up c p) w))) (sym (after c p le))
      (rounded_equal x _ (over_factor (response to_half_up c p) x (factor_at c p) h))

  own_before : p.time < c.disturbance → Near 0 (compensated unrounded c p) (response unrounded c p)
  own_before less = rw (before c p less) (once (response unrounded c p))

  own_before_rounded : p.time < c.disturbance → Near 0 (compensated to_half_up c p) (response to_half_up c p)
  own_before_rounded less = rw (before c p less) (half_up_difference (p.push *ℤ pos 100) _)

pub response_laws : (c : Case) (p : Point) → ResponseLaws c p
response_laws c p = record {
  weighed_from_disturbance = from_disturbance c p;
  weighed_at_disturbance = at_disturbance c p;
  rounded_from_disturbance = rounded_from_disturbance c p;
  own_before_disturbance = λ less. near_equal (own_before c p less);
  own_before_disturbance_rounded = λ less. near_equal (own_before_rounded c p less);
}

-- ---- the value of a window
hundredth_times : (x : Fraction) (k : ℕ) → Near 0 (x · k ÷ 100 · 100) (x · k)
hundredth_times x k = near_same (reads-· 100 (reads_by 100 (omega arith) (reads-· k reads_self))) (reads-· k reads_self) (omega arith)

hundredth_of : (x y : Fraction) → Equal (x · 100) y → Near 0 x (y ÷ 100)
hundredth_of x y h = near_trans {n = 0} {m = 0} (near_same reads_self (reads_by 100 (omega arith) (reads-· 100 reads_self)) (omega arith)) (near-÷ {n = 0} 100 (omega arith) (equal_near h))

in_watts : (watts : ℤ) (k : ℕ) → Near 0 (hundredths watts · k ÷ 100) (whole (watts *ℤ pos k))
in_watts watts k = near_same (reads_by 100 (omega arith) (reads-· k (reads_whole_times watts 100))) (reads_whole_times watts k) (omega arith)

-- so many watts, counted so often, are their own half-up
watts_kept : (watts : ℤ) (k : ℕ) → to_half_up (hundredths watts · k ÷ 100) ≡ whole (watts *ℤ pos k)
watts_kept watts k = let same = near_equal (in_watts watts k) in ap whole (half_up_value _ _ same.0 same.1 ∙ half_up_of_whole (watts *ℤ pos k))

level_in_watts : (c : Case) (watts : ℤ) (w : Window) → Rises (used c) → 0 < length (used c) → w.start < w.end → AllByRecursion (λ p. compensated to_half_up c p ≡ hundredths watts) (used c)
    → value to_half_up c w ≡ whole (watts *ℤ pos w.multiplier)
level_in_watts c watts w rises some less level = level_value c (watts *ℤ pos 100) w rises some less level ∙ watts_kept watts w.multiplier

level_in_watts_of_any_points : (watts : ℤ) (used : List Point) (w : Window) → Rises used → 0 < length used → w.start < w.end
    → value_of to_half_up (λ _. hundredths watts) used w ≡ whole (watts *ℤ pos w.multiplier)
level_in_watts_of_any_points watts used w rises some less = level_value_of_any_points (watts *ℤ pos 100) used w rises some less ∙ watts_kept watts w.multiplier

pub value_laws : ValueLaws
value_laws = record {
  end_rounded_once = λ c t. rounded_half_up _;
  exact = λ c w. rw (value_is unrounded c w) (near_equal (hundredth_times (average_in unrounded c w) w.multiplier));
  rounded_once = λ c w x h. rw (value_is to_half_up c w) (rounded_equal x _ (hundredth_of x (average_in to_half_up c w · w.multiplier) h));
  level_in_watts = level_in_watts;
  end_is_that_of_the_responses = λ r c t. refl;
  value_is_that_of_the_responses = value_is;
  end_rounded_once_of_any_response = λ f used t. rounded_half_up _;
  level_in_watts_of_any_points = level_in_watts_of_any_points;
}
