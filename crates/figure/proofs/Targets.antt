-- The trajectory through targets in their order, and the base pushes that it raises.
use Rattle.std.proofs.Common.{◌≡◌, ℕ, ◌+◌, ◌-◌, ◌<◌, ◌≤◌, Bool, true, false, cond, ltb, List, [], ◌∷◌, ◌++◌, length, get_or, ℤ, pos, ◌*ℤ◌, ◌⊎◌, sym, refl, ap, ◌∙◌, subst, inl, inr, append_assoc, add-one, arith}
use Rattle.std.proofs.lemmas.Bool.{ltb-true, ltb-false, cond_both, cases_lt}
use borrow.Author.Differences.{up, down}
use Rattle.exact.specs.Fractions.{Fraction, whole, ◌⊕◌, ◌⊖◌, ◌·◌, ◌≼◌, Equal, at_most, greater}
use Rattle.exact.specs.Lines.{straight, line_from}
use Rattle.exact.specs.Rounding.{half_up}
use Rattle.exact.proofs.Naturals.{reads_self, reads_whole, reads-⊕, reads-⊖, reads-·, ≼-in, ≼-out, at_most_yes, at_most_so}
use Rattle.exact.proofs.Near.{Near, near_refl, near_more, near_trans, near-⊕, near-·, near_same, near_equal, equal_near}
use Rattle.exact.proofs.Rounding.{half_up_is, half_up_value}
use Rattle.exact.proofs.Lines.{reads_ends, through_ends}
use Rattle.exact.proofs.Wholes.{half_up_of_whole}
use Rattle.timeline.specs.declared.target.Target.{Target}
use Rattle.disturbance.specs.declared.direction.Direction.{Direction}
use Rattle.disturbance.specs.Direction.{push}
use Rattle.figure.specs.declared.point.Point.{Point}
use Rattle.figure.specs.Steps.{Rounding, Case, to_half_up, unrounded, power, trajectory, push_with, base_push}
use Rattle.figure.specs.StepLaws.{Rounded, aim, with_targets, TrajectoryLaws, RaisedLaws}

-- what is rounded half-up is the half-up of what is exact
pub rounded_half_up : (x : Fraction) → Rounded x (to_half_up x)
rounded_half_up x = record { number = half_up x; is = refl; half_up = half_up_is x }

-- what equals x is rounded to what x is
pub rounded_equal : (x y : Fraction) → Near 0 x y → Rounded x (to_half_up y)
rounded_equal x y near = let same = near_equal near in subst (λ (z : ℤ). Rounded x (whole z)) (half_up_value x y same.0 same.1) (rounded_half_up x)

-- ---- entries whose times strictly rise, all after t
module _ {A : Type 0} (time : A → ℕ) where
  abbrev pub Later : ℕ → List A → Type 0
  Later t [] = Unit {0}
  Later t (a ∷ rest) = (t < time a) × Later (time a) rest

  pub later_in : (t : ℕ) (earlier : List A) (g : A) (rest : List A) → Later t (earlier ++ g ∷ rest) → t < time g
  later_in t [] g rest h = h.0
  later_in t (a ∷ earlier) g rest h = omega (arith, h.0, later_in (time a) earlier g rest h.1)

-- ---- the straight line through entries with whole values
module _ {A : Type 0} (time : A → ℕ) (z : A → ℤ) where
  abbrev value : A → Fraction
  value a = whole (z a)

  -- at the time of the last that was passed
  from_start : (g : A) (later : List A) → Later time (time g) later → Near 0 (line_from time value (time g) (value g) later (time g)) (value g)
  from_start g [] h = near_refl
  from_start g (a ∷ later) h =
      cond_both (ltb (time g) (time a)) _ _ (λ x. Near 0 x (value g)) (λ e. equal_near (through_ends.start (time g) (time a) (z g) (z a) h.0)) (λ e. absurd (omega (arith, ltb-false (time g) (time a) e, h.0)))

  at_entry_from : (t : ℕ) (v : Fraction) (earlier : List A) (g : A) (later : List A) → Later time t (earlier ++ g ∷ later) → Near 0 (line_from time value t v (earlier ++ g ∷ later) (time g)) (value g)
  at_entry_from t v [] g later h =
      cond_both (ltb (time g) (time g)) _ _ (λ x. Near 0 x (value g)) (λ e. absurd (omega (arith, ltb-true (time g) (time g) e))) (λ e. from_start g later h.1)
  at_entry_from t v (a ∷ earlier) g later h =
      cond_both (ltb (time g) (time a)) _ _ (λ x. Near 0 x (value g)) (λ e. absurd (omega (arith, ltb-true (time g) (time a) e, later_in time (time a) earlier g later h.1)))
      (λ e. at_entry_from (time a) (value a) earlier g later h.1)

  -- between neighbours
  from_between : (g h : A) (later : List A) (u : ℕ) → u < time h → line_from time value (time g) (value g) (h ∷ later) u ≡ straight (time g) (value g) (time h) (value h) u
  from_between g h later u less =
      cond_both (ltb u (time h)) _ _ (λ x. x ≡ straight (time g) (value g) (time h) (value h) u) (λ e. refl) (λ e. absurd (omega (arith, ltb-false u (time h) e)))

  between_from : (t : ℕ) (v : Fraction) (earlier : List A) (g h : A) (later : List A) (u : ℕ) → Later time t (earlier ++ g ∷ h ∷ later) → time g ≤ u → u < time h
      → line_from time value t v (earlier ++ g ∷ h ∷ later) u ≡ straight (time g) (value g) (time h) (value h) u
  between_from t v [] g h later u rises after until =
      cond_both (ltb u (time g)) _ _ (λ x. x ≡ straight (time g) (value g) (time h) (value h) u) (λ e. absurd (omega (arith, ltb-true u (time g) e))) (λ e. from_between g h later u until)
  between_from t v (a ∷ earlier) g h later u rises after until =
      cond_both (ltb u (time a)) _ _ (λ x. x ≡ straight (time g) (value g) (time h) (value h) u) (λ e. absurd (omega (arith, ltb-true u (time a) e, later_in time (time a) earlier g (h ∷ later) rises.1)))
      (λ e. between_from (time a) (value a) earlier g h later u rises.1 after until)

-- each end counts by the time to the other
by_ends : (v w : ℤ) (t s u : ℕ) → t < s → t ≤ u → u ≤ s → Near 0 (straight t (whole v) s (whole w) u · (s - t)) (whole v · (s - u) ⊕ whole w · (u - t))
by_ends v w t s u less after until =
    near_same (reads-· (s - t) (reads_ends v w t s u 0 less after until)) (reads-⊕ (reads-· (s - u) (reads_whole v)) (reads-· (u - t) (reads_whole w))) (omega arith)

-- at the later end only that end counts
at_later : (v w : ℤ) (t s : ℕ) → Near 0 (whole w · (s - t)) (whole v · (s - s) ⊕ whole w · (s - t))
at_later v w t s =
    let none : s - s ≡ 0 = omega arith in
    rw none (near_same (reads-· (s - t) (reads_whole w)) (reads-⊕ (reads-· 0 (reads_whole v)) (reads-· (s - t) (reads_whole w))) (omega arith))

-- ---- targets in their order
abbrev RisingTargets : List Target → Type 0
RisingTargets gs = (i : ℕ) (d : Target) → i + 1 < length gs → (get_or gs i d).time < (get_or gs (i + 1) d).time

rising_rest : (g : Target) (gs : List Target) → RisingTargets (g ∷ gs) → RisingTargets gs
rising_rest g gs rising i d less = rw (add-one i) (simp add-one at (rising (i + 1) d (omega arith)))

later_targets : (g : Target) (gs : List Target) → RisingTargets (g ∷ gs) → Later (λ (h : Target). h.time) g.time gs
later_targets g [] rising = tt
later_targets g (h ∷ gs) rising = (rising 0 g (omega arith), later_targets h gs (rising_rest g (h ∷ gs) rising))

abbrev time_of : Target → ℕ
time_of g = g.time

module _ (c : Case) where
  abbrev d : Direction
  d = c.direction

  abbrev aim_of : Target → ℤ
  aim_of g = push d g.power *ℤ pos 100

  through_target : (earlier later : List Target) (g : Target) → RisingTargets (earlier ++ g ∷ later) → Near 0 (trajectory unrounded (with_targets c (earlier ++ g ∷ later)) g.time) (aim d g)
  through_target [] later g rising = from_start time_of aim_of g later (later_targets g later rising)
  through_target (a ∷ earlier) later g rising = at_entry_from time_of aim_of a.time (aim d a) earlier g later (later_targets a (earlier ++ g ∷ later) rising)

  through_target_rounded : (earlier later : List Target) (g : Target) → RisingTargets (earlier ++ g ∷ later) → trajectory to_half_up (with_targets c (earlier ++ g ∷ later)) g.time ≡ aim d g
  through_target_rounded earlier later g rising =
      let same = near_equal (through_target earlier later g rising) in
      ap whole (half_up_value _ _ same.0 same.1 ∙ half_up_of_whole (aim_of g))

  on_straight : (earlier later : List Target) (g h : Target) (t : ℕ) → RisingTargets (earlier ++ g ∷ h ∷ later) → g.time ≤ t → t < h.time
      → trajectory unrounded (with_targets c (earlier ++ g ∷ h ∷ later)) t ≡ straight g.time (aim d g) h.time (aim d h) t
  on_straight [] later g h t rising after until = from_between time_of aim_of g h later t until
  on_straight (a ∷ earlier) later g h t rising after until =
      between_from time_of aim_of a.time (aim d a) earlier g h later t (later_targets a (earlier ++ g ∷ h ∷ later) rising) after until

  -- at the later of two neighbours, and before it
  straight_to : (earlier later : List Target) (g h : Target) (t : ℕ) → RisingTargets (earlier ++ g ∷ h ∷ later) → g.time ≤ t → t ≤ h.time → (t < h.time) ⊎ (h.time ≤ t)
      → Near 0 (trajectory unrounded (with_targets c (earlier ++ g ∷ h ∷ later)) t · (h.time - g.time)) (aim d g · (h.time - t) ⊕ aim d h · (t - g.time))
  straight_to earlier later g h t rising after until (inl before) =
      rw (on_straight earlier later g h t rising after before) (by_ends (aim_of g) (aim_of h) g.time h.time t (omega arith) after until)
  straight_to earlier later g h t rising after until (inr reached) =
      let there : t ≡ h.time = omega arith in
      let split : earlier ++ g ∷ h ∷ later ≡ (earlier ++ g ∷ []) ++ h ∷ later = sym (append_assoc earlier (g ∷ []) (h ∷ later)) in
      let at_h = through_target (earlier ++ g ∷ []) later h (subst RisingTargets split rising) in
      rw (there, split) (near_trans {n = 0} {m = 0} (near_more (omega arith) (near-· (h.time - g.time) at_h)) (at_later (aim_of g) (aim_of h) g.time h.time))

  straight_between : (earlier later : List Target) (g h : Target) (t : ℕ) → RisingTargets (earlier ++ g ∷ h ∷ later) → g.time ≤ t → t ≤ h.time
      → Near 0 (trajectory unrounded (with_targets c (earlier ++ g ∷ h ∷ later)) t · (h.time - g.time)) (aim d g · (h.time - t) ⊕ aim d h · (t - g.time))
  straight_between earlier later g h t rising after until = straight_to earlier later g h t rising after until (cases_lt t h.time)

pub trajectory_laws : (c : Case) → TrajectoryLaws c
trajectory_laws c = record {
  through_targets = λ earlier later g ordered. near_equal (through_target c earlier later g ordered.rising);
  through_targets_rounded = λ earlier later g ordered. through_target_rounded c earlier later g ordered.rising;
  straight_between = λ earlier later g h t ordered after until. near_equal (straight_between c earlier later g h t ordered.rising after until);
  rounded_once = λ t. rounded_half_up _;
}

-- ---- differences and 0
least : (x y : Fraction) → y ≼ x → whole (pos 0) ≼ x ⊖ y
least x y h = ≼-in (reads_whole (pos 0)) (reads-⊖ reads_self reads_self) (omega (arith, ≼-out reads_self reads_self h))

most : (x y : Fraction) → x ≼ y → x ⊖ y ≼ whole (pos 0)
most x y h = ≼-in (reads-⊖ reads_self reads_self) (reads_whole (pos 0)) (omega (arith, ≼-out reads_self reads_self h))

-- the greater of 0 and a difference: the difference where it does not fall, and 0 where it does not rise
rises_by : (x y : Fraction) → y ≼ x → greater (whole (pos 0)) (x ⊖ y) ≡ x ⊖ y
rises_by x y h = ap (λ (b : Bool). cond b (x ⊖ y) (whole (pos 0))) (at_most_so _ _ (least x y h))

falls : (x y : Fraction) → x ≼ y → Near 0 (greater (whole (pos 0)) (x ⊖ y)) (whole (pos 0))
falls x y h = by (at_most (whole (pos 0)) (x ⊖ y)) refl
  where
    by : (b : Bool) → at_most (whole (pos 0)) (x ⊖ y) ≡ b → Near 0 (cond b (x ⊖ y) (whole (pos 0))) (whole (pos 0))
    by true e = equal_near (most x y h, at_most_yes _ _ e)
    by false e = near_refl

back : (x y : Fraction) → Near 0 (y ⊕ (x ⊖ y)) x
back x y = near_same (reads-⊕ reads_self (reads-⊖ reads_self reads_self)) reads_self (omega arith)

no_more : (x : Fraction) → Near 0 (x ⊕ whole (pos 0)) x
no_more x = near_same (reads-⊕ reads_self (reads_whole (pos 0))) reads_self (omega arith)

-- ---- the push of a base sample
module _ (r : Rounding) (c : Case) (p : Point) where
  abbrev here : Fraction
  here = trajectory r c p.time

  abbrev there : Fraction
  there = trajectory r c c.disturbance

  by_rise : (gs : List Target) → 0 < length gs → here ≼ there → push_with r c gs p ≡ power p ⊕ (there ⊖ here)
  by_rise [] some up = absurd (omega arith)
  by_rise (g ∷ gs) some up = ap (λ (x : Fraction). power p ⊕ x) (rises_by there here up)

  by_fall : (gs : List Target) → there ≼ here → Near 0 (push_with r c gs p) (power p)
  by_fall [] down = near_refl
  by_fall (g ∷ gs) down = near_trans {n = 0} {m = 0} (near-⊕ {n = 0} {m = 0} near_refl (falls _ _ down)) (no_more _)

  pub on_rising : 0 < length c.targets → Equal (power p) here → here ≼ there → Near 0 (base_push r c p) there
  on_rising some on up = rw (by_rise c.targets some up) (near_trans {n = 0} {m = 0} (near-⊕ {n = 0} {m = 0} (equal_near on) near_refl) (back _ _))

  own : (gs : List Target) → gs ≡ [] → push_with r c gs p ≡ power p
  own [] none = refl
  own (g ∷ gs) none = cc

  same : {x y : Fraction} → x ≡ y → Near 0 x y
  same {x} e = subst (Near 0 x) e near_refl

  pub raised_laws : RaisedLaws r c p
  raised_laws = record {
    own_without_targets = own c.targets;
    raised_by_rise = λ some up. near_equal (same (by_rise c.targets some up));
    kept_by_fall = λ down. near_equal (by_fall c.targets down);
    follows_targets = λ some on up. near_equal (on_rising some on up);
  }
