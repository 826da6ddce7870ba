-- What changes evenly, and means of joined lists.
use Rattle.std.proofs.Common.{◌≡◌, ℕ, ◌+◌, ◌-◌, ◌*◌, ◌<◌, ◌≤◌, List, [], ◌∷◌, ◌++◌, length, ℤ, pos, ◌+ℤ◌, ◌*ℤ◌, arith, length-append}
use Rattle.std.specs.List.{AllByRecursion}
use borrow.Author.Differences.{up, down, ints, sum_is_lem, product_is}
use Rattle.exact.specs.Fractions.{Fraction, ◌⊕◌, ◌·◌, ◌÷◌, Equal}
use Rattle.exact.specs.Lines.{straight}
use Rattle.exact.specs.Averages.{sum_of, mean, trapezoids, average, Climbs, evenly, EvenChanges}
use Rattle.exact.proofs.Naturals.{Reads, reads_self, reads_whole, reads-⊕, reads-·}
use Rattle.exact.proofs.Near.{Near, near_refl, near_trans, near-⊕, near-÷, near_same, near_equal}
use Rattle.exact.proofs.NearLines.{straight_near}
use Rattle.exact.proofs.Averages.{climbs_upto}
use Rattle.exact.proofs.Order.{reads_by}
use Rattle.exact.proofs.Segments.{near_sym, same_by, same-⊕, same-·, Scaled, scaled_same, scaled_straight}

pub half : (x : Fraction) (n : ℕ) → 0 < n → Near 0 (x · n ÷ (2 * n)) (x ÷ 2)
half x n p = near_same (reads_by (2 * n) (omega arith) (reads-· n reads_self)) (reads_by 2 (omega arith) reads_self) (omega arith)

-- ---- an even change
module _ (b c : ℤ) where
  abbrev E : ℕ → Fraction
  E s = evenly b c s

  reads_even : (s : ℕ) → Reads (E s) (up b + up c * s) (down b + down c * s) 1
  reads_even s = let r = reads_whole (b +ℤ c *ℤ pos s) in
      record { top_is = omega (arith, ints, r.top_is, sum_is_lem b (c *ℤ pos s), product_is c (pos s)); bottom_is = r.bottom_is }

  -- two strips side by side are one
  strips : (t j k : ℕ) → Near 0 ((E t ⊕ E (t + j)) · j ⊕ (E (t + j) ⊕ E (t + j + k)) · k) ((E t ⊕ E (t + j + k)) · (j + k))
  strips t j k = near_same (reads-⊕ (reads-· j (reads-⊕ (reads_even t) (reads_even (t + j)))) (reads-· k (reads-⊕ (reads_even (t + j)) (reads_even (t + j + k)))))
      (reads-· (j + k) (reads-⊕ (reads_even t) (reads_even (t + j + k)))) (omega arith)

  strips_at : (t a t' : ℕ) → t ≤ a → a ≤ t' → Near 0 ((E t ⊕ E a) · (a - t) ⊕ (E a ⊕ E t') · (t' - a)) ((E t ⊕ E t') · (t' - t))
  strips_at t a t' le le' =
      let ea : t + (a - t) ≡ a = omega arith in
      let et : a + (t' - a) ≡ t' = omega arith in
      let n : (a - t) + (t' - a) ≡ t' - t = omega arith in
      let s = strips t (a - t) (t' - a) in
      rw (n, et) at (rw ea at s)

  -- it goes along straight lines
  on_line : (t j k : ℕ) → Near 0 (E (t + j) · (j + k)) (E t · k ⊕ E (t + j + k) · j)
  on_line t j k = near_same (reads-· (j + k) (reads_even (t + j))) (reads-⊕ (reads-· k (reads_even t)) (reads-· j (reads_even (t + j + k)))) (omega arith)

  on_line_at : (t u s : ℕ) → t ≤ u → u ≤ s → Near 0 (E u · (s - t)) (E t · (s - u) ⊕ E s · (u - t))
  on_line_at t u s le le' =
      let eu : t + (u - t) ≡ u = omega arith in
      let es : u + (s - u) ≡ s = omega arith in
      let n : (u - t) + (s - u) ≡ s - t = omega arith in
      let h = on_line t (u - t) (s - u) in
      rw (n, es) at (rw eu at h)

  pub straight_even : {v w : Fraction} (t s u : ℕ) → t ≤ u → u < s → Near 0 v (E t) → Near 0 w (E s) → Near 0 (straight t v s w u) (E u)
  straight_even {v} {w} t s u le lt h k =
      let on : Scaled (s - t) (E t) (E s) (E u) (s - u) (u - t) = record { is = on_line_at t u s le (omega arith) } in
      same_by (straight_near {n = 0} t s u lt h k) (scaled_same (omega arith) (omega arith) (omega arith) (scaled_straight t s u (E t) (E s) (omega arith) le (omega arith)) on)

  -- from entry to entry
  module _ {A : Type 0} (time : A → ℕ) (f : A → Fraction) where
    area_even : (t : ℕ) (v : Fraction) (ks : List A) (t' : ℕ) (v' : Fraction) → Climbs time t ks t' → Near 0 v (E t) → AllByRecursion (λ a. Near 0 (f a) (E (time a))) ks → Near 0 v' (E t')
        → Near 0 (trapezoids time f t v ks t' v') ((E t ⊕ E t') · (t' - t))
    area_even t v [] t' v' h e all e' = same-· (t' - t) (same-⊕ e e')
    area_even t v (a ∷ ks) t' v' h e all e' =
        same_by (same-⊕ (same-· (time a - t) (same-⊕ e all.0)) (area_even (time a) (f a) ks t' v' h.1 all.0 all.1 e')) (strips_at t (time a) t' h.0 (climbs_upto time (time a) ks t' h.1))

    pub average_even : (t : ℕ) (v : Fraction) (ks : List A) (t' : ℕ) (v' : Fraction) → t < t' → Climbs time t ks t' → Near 0 v (E t) → AllByRecursion (λ a. Near 0 (f a) (E (time a))) ks → Near 0 v' (E t')
        → Near 0 (average time f t v ks t' v') ((E t ⊕ E t') ÷ 2)
    average_even t v ks t' v' lt h e all e' = same_by (near-÷ (2 * (t' - t)) (omega arith) (area_even t v ks t' v' h e all e')) (half _ (t' - t) (omega arith))

  all_even : (times : List ℕ) → AllByRecursion (λ s. Near 0 (E s) (E s)) times
  all_even [] = tt
  all_even (s ∷ times) = (near_refl, all_even times)

  average_is_middle : (t : ℕ) (times : List ℕ) (t' : ℕ) → t < t' → Climbs (λ s. s) t times t' → Equal (average (λ s. s) (evenly b c) t (evenly b c t) times t' (evenly b c t')) ((evenly b c t ⊕ evenly b c t') ÷ 2)
  average_is_middle t times t' lt h = near_equal (average_even (λ s. s) (evenly b c) t (E t) times t' (E t') lt h near_refl (all_even times) near_refl)

-- ---- means of joined lists
sum_joins : (xs ys : List Fraction) → Near 0 (sum_of (λ x. x) (xs ++ ys)) (sum_of (λ x. x) xs ⊕ sum_of (λ x. x) ys)
sum_joins [] ys = near_same reads_self (reads-⊕ (reads_whole (pos 0)) reads_self) (omega arith)
sum_joins (x ∷ xs) ys = near_trans (near-⊕ near_refl (sum_joins xs ys)) (near_same (reads-⊕ reads_self (reads-⊕ reads_self reads_self)) (reads-⊕ (reads-⊕ reads_self reads_self) reads_self) (omega arith))

mean_back : (xs : List Fraction) → 0 < length xs → Near 0 (mean (λ x. x) xs · length xs) (sum_of (λ x. x) xs)
mean_back xs p = near_same (reads-· (length xs) (reads_by (length xs) p reads_self)) reads_self (omega arith)

means_join : (xs ys : List Fraction) → 0 < length xs → 0 < length ys → Equal (mean (λ x. x) (xs ++ ys) · length (xs ++ ys)) (mean (λ x. x) xs · length xs ⊕ mean (λ x. x) ys · length ys)
means_join xs ys p q =
    near_equal (same_by (same_by (mean_back (xs ++ ys) (omega (arith, length-append xs ys))) (sum_joins xs ys)) (same-⊕ (near_sym (mean_back xs p)) (near_sym (mean_back ys q))))

pub even_changes : EvenChanges
even_changes = record { average_is_middle = average_is_middle; means_join = means_join }
