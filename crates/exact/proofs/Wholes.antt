-- Whole numbers in the place of fractions: `Is x n d` says that x is n over d, however it is written. How code on whole numbers finds a fraction's half-up.
use Rattle.std.proofs.Common.{◌≡◌, ℕ, ◌+◌, ◌-◌, ◌*◌, ◌<◌, ◌≤◌, Bool, true, false, cond, List, [], ◌∷◌, length, ℤ, pos, ◌+ℤ◌, ◌-ℤ◌, ◌*ℤ◌, neg_ℤ, refl, ap, ◌∙◌, subst, mul-pos, arith}
use lib.Signed.{le_z, lt_z}
use Rattle.std.specs.Int.{int_min, int_max}
use borrow.Author.Differences.{up, down, ints, sum_is_lem, neg_is, product_is}
use Rattle.exact.specs.Fractions.{Fraction, whole, frac, at_most, lesser, greater, ◌⊕◌, ◌⊖◌, ◌·◌, ◌÷◌}
use Rattle.exact.specs.Rounding.{half_up}
use Rattle.exact.specs.Lines.{straight}
use Rattle.exact.specs.Averages.{sum_of, mean, trapezoids, average}
use Rattle.exact.specs.Wholes.{Is, twice_area}
use Rattle.exact.specs.Limits.{Within}
use Rattle.exact.proofs.Naturals.{Reads, reads_self, reads-⊕, reads-⊖, reads-·, reads_whole, ≼-in}
use Rattle.exact.proofs.Rounding.{half_up_value, half_up_from}
use Rattle.exact.proofs.Lines.{through_ends}
use Rattle.exact.proofs.Order.{reads_over, reads_by}
use Rattle.exact.proofs.Limits.{within_more, within-+, within-*}

-- from any reading of x
is_read : {x : Fraction} {g l b : ℕ} (n : ℤ) (d : ℕ) → Reads x g l b → 0 < d → g * d + down n * b ≡ up n * b + l * d → Is x n d
is_read {x} {g} {l} {b} n d h p e = record { above = p; is = rw h.bottom_is (omega (arith, ap (λ (m : ℕ). m * d) h.top_is)) }

pub is_whole : (z : ℤ) → Is (whole z) z 1
is_whole z = is_read z 1 (reads_whole z) (omega arith) (omega arith)

sum_nat : (g l b g' l' b' n n⁻ m m⁻ s s⁻ d : ℕ) → g * d + n⁻ * b ≡ n * b + l * d → g' * d + m⁻ * b' ≡ m * b' + l' * d → s + n⁻ + m⁻ ≡ s⁻ + n + m → (g * b' + g' * b) * d + s⁻ * (b * b') ≡ s * (b * b') + (l * b' + l' * b) * d
sum_nat g l b g' l' b' n n⁻ m m⁻ s s⁻ d e e' f = omega (arith, ap (λ (k : ℕ). k * b') e, ap (λ (k : ℕ). k * b) e', ap (λ (k : ℕ). k * (b * b')) f)

pub is-⊕ : {x y : Fraction} {n m : ℤ} {d : ℕ} → Is x n d → Is y m d → Is (x ⊕ y) (n +ℤ m) d
is-⊕ {n = n} {m = m} {d = d} h k = is_read (n +ℤ m) d (reads-⊕ reads_self reads_self) h.above (sum_nat _ _ _ _ _ _ _ _ _ _ _ _ d h.is k.is (sum_is_lem n m))

diff_nat : (g l b g' l' b' n n⁻ m m⁻ s s⁻ d : ℕ) → g * d + n⁻ * b ≡ n * b + l * d → g' * d + m⁻ * b' ≡ m * b' + l' * d → s + n⁻ + m ≡ s⁻ + n + m⁻ → (g * b' + l' * b) * d + s⁻ * (b * b') ≡ s * (b * b') + (l * b' + g' * b) * d
diff_nat g l b g' l' b' n n⁻ m m⁻ s s⁻ d e e' f = omega (arith, ap (λ (k : ℕ). k * b') e, ap (λ (k : ℕ). k * b) e', ap (λ (k : ℕ). k * (b * b')) f)

pub is-⊖ : {x y : Fraction} {n m : ℤ} {d : ℕ} → Is x n d → Is y m d → Is (x ⊖ y) (n -ℤ m) d
is-⊖ {n = n} {m = m} {d = d} h k = is_read (n -ℤ m) d (reads-⊖ reads_self reads_self) h.above (diff_nat _ _ _ _ _ _ _ _ _ _ _ _ d h.is k.is (omega (arith, sum_is_lem n (neg_ℤ m), neg_is m)))

pub is-· : {x : Fraction} {n : ℤ} {d : ℕ} (k : ℕ) → Is x n d → Is (x · k) (n *ℤ pos k) d
is-· {x} {n} {d} k h = is_read (n *ℤ pos k) d (reads-· k reads_self) h.above (omega (arith, ap (λ (m : ℕ). m * k) h.is, ap (λ (m : ℕ). m * x.bottom) (product_is n (pos k)).0, ap (λ (m : ℕ). m * x.bottom) (product_is n (pos k)).1))

-- written with another bottom
pub is_more : {x : Fraction} {n : ℤ} {d : ℕ} (k : ℕ) → 0 < k → Is x n d → Is x (n *ℤ pos k) (d * k)
is_more {x} {n} {d} k p h = is_read (n *ℤ pos k) (d * k) reads_self (mul-pos h.above p) (omega (arith, ap (λ (m : ℕ). m * k) h.is, ap (λ (m : ℕ). m * x.bottom) (product_is n (pos k)).0, ap (λ (m : ℕ). m * x.bottom) (product_is n (pos k)).1))

pub is-÷ : {x : Fraction} {n : ℤ} {d : ℕ} (k : ℕ) → 0 < k → Is x n d → Is (x ÷ k) n (d * k)
is-÷ {x} {n} {d} k p h = is_read n (d * k) (reads_by k p reads_self) (mul-pos h.above p) (omega (arith, ap (λ (m : ℕ). m * k) h.is))

pub half_up_of : {x : Fraction} {n : ℤ} {d : ℕ} → Is x n d → half_up x ≡ half_up (frac n d)
half_up_of {x} {n} {d} h =
    let r = reads_over n d h.above in
    half_up_value x (frac n d) (≼-in reads_self r (omega (arith, h.is))) (≼-in r reads_self (omega (arith, h.is)))

-- ---- the mean of entries whose sum is n over 1
pub is_none : {X : Type 0} (f : X → Fraction) → Is (sum_of f []) (pos 0) 1
is_none f = is_whole (pos 0)

pub half_up_mean_of : {X : Type 0} (f : X → Fraction) (xs : List X) (n : ℤ) → 0 < length xs → Is (sum_of f xs) n 1 → half_up (mean f xs) ≡ half_up (frac n (length xs))
half_up_mean_of f xs n p h = half_up_of (subst (λ (d : ℕ). Is (mean f xs) n d) (omega arith) (is-÷ (length xs) p h))

-- the greater of 0 and a difference
pub is_rise : (a b : ℤ) → Is (greater (whole (pos 0)) (whole a ⊖ whole b)) (int_max (a -ℤ b) (pos 0)) 1
unfolding at_most whole ◌⊖◌
is_rise a b = by (le_z (pos 0 *ℤ pos (1 * 1)) ((a *ℤ pos 1 -ℤ b *ℤ pos 1) *ℤ pos 1)) (lt_z (pos 0) (a -ℤ b)) refl refl
  where
    by : (s t : Bool) → le_z (pos 0 *ℤ pos (1 * 1)) ((a *ℤ pos 1 -ℤ b *ℤ pos 1) *ℤ pos 1) ≡ s → lt_z (pos 0) (a -ℤ b) ≡ t → Is (cond s (whole a ⊖ whole b) (whole (pos 0))) (cond t (a -ℤ b) (pos 0)) 1
    by true true e f = is-⊖ (is_whole a) (is_whole b)
    by true false e f = let q : a -ℤ b ≡ pos 0 = omega (arith, ints) in subst (λ (n : ℤ). Is (whole a ⊖ whole b) n 1) q (is-⊖ (is_whole a) (is_whole b))
    by false true e f = absurd (omega (arith, ints))
    by false false e f = is_whole (pos 0)

-- ---- a straight line between whole values
pub half_up_straight : (t t' u : ℕ) (v v' : ℤ) → t < t' → half_up (straight t (whole v) t' (whole v') u) ≡ half_up (frac (v *ℤ pos (t' - t) +ℤ (v' -ℤ v) *ℤ pos (u - t)) (t' - t))
half_up_straight t t' u v v' lt =
    let p : 0 < t' - t = omega arith in
    let e : 1 * (t' - t) ≡ t' - t = omega arith in
    half_up_of (subst (λ (d : ℕ). Is (straight t (whole v) t' (whole v') u) (v *ℤ pos (t' - t) +ℤ (v' -ℤ v) *ℤ pos (u - t)) d) e
    (is-⊕ (is_more (t' - t) p (is_whole v)) (is-÷ (t' - t) p (is-· (u - t) (is-⊖ (is_whole v') (is_whole v))))))

pub straight_within : (A t t' u : ℕ) (v v' : ℤ) → t ≤ u → u ≤ t' → Within A v → Within A v' → Within (A * (t' - t)) (v *ℤ pos (t' - t) +ℤ (v' -ℤ v) *ℤ pos (u - t))
straight_within A t t' u v v' le le' h k =
    let e : v *ℤ pos (t' - t) +ℤ (v' -ℤ v) *ℤ pos (u - t) ≡ v *ℤ pos (t' - u) +ℤ v' *ℤ pos (u - t) = split v v' (t' - t) (u - t) (t' - u) (omega arith) in
    let q : (t' - u) + (u - t) ≡ t' - t = omega arith in
    rw e (within_more (omega (arith, ap (λ (m : ℕ). A * m) q)) (within-+ (within-* (t' - u) h) (within-* (u - t) k)))
  where
    split : (v v' : ℤ) (d k j : ℕ) → d ≡ j + k → v *ℤ pos d +ℤ (v' -ℤ v) *ℤ pos k ≡ v *ℤ pos j +ℤ v' *ℤ pos k
    split v v' d k j e = rw e (omega (arith, ints, ap (λ (n : ℕ). n * k) (sum_is_lem v' (neg_ℤ v)), ap (λ (n : ℕ). n * k) (neg_is v).0, ap (λ (n : ℕ). n * k) (neg_is v).1))

-- ---- trapezoids between whole values
module _ {A : Type 0} (time : A → ℕ) (z : A → ℤ) where
  trapezoids_is : (t : ℕ) (v : ℤ) (ks : List A) (t' : ℕ) (v' : ℤ) → Is (trapezoids time (λ a. whole (z a)) t (whole v) ks t' (whole v')) (twice_area time z t v ks t' v') 1
  trapezoids_is t v [] t' v' = is-· (t' - t) (is-⊕ (is_whole v) (is_whole v'))
  trapezoids_is t v (a ∷ ks) t' v' = is-⊕ (is-· (time a - t) (is-⊕ (is_whole v) (is_whole (z a)))) (trapezoids_is (time a) (z a) ks t' v')

  pub half_up_window : (m t : ℕ) (v : ℤ) (ks : List A) (t' : ℕ) (v' : ℤ) → t < t' → half_up (average time (λ a. whole (z a)) t (whole v) ks t' (whole v') · m ÷ 100) ≡ half_up (frac (twice_area time z t v ks t' v' *ℤ pos m) (200 * (t' - t)))
  half_up_window m t v ks t' v' lt =
      half_up_of (subst (λ (d : ℕ). Is (average time (λ a. whole (z a)) t (whole v) ks t' (whole v') · m ÷ 100) (twice_area time z t v ks t' v' *ℤ pos m) d) (omega arith)
      (is-÷ 100 (omega arith) (is-· m (is-÷ (2 * (t' - t)) (omega arith) (trapezoids_is t v ks t' v')))))

-- ---- whole numbers themselves
pub half_up_of_whole : (z : ℤ) → half_up (whole z) ≡ z
half_up_of_whole z = half_up_from z (reads_whole z) (omega arith) (omega arith)

pub whole_in : {a b : ℤ} → whole a ≡ whole b → a ≡ b
unfolding whole
whole_in e = ap (λ (x : Fraction). x.top) e

pub lesser_whole : (a b : ℤ) → lesser (whole a) (whole b) ≡ whole (int_min a b)
unfolding at_most whole
lesser_whole a b = by (le_z (a *ℤ pos 1) (b *ℤ pos 1)) (lt_z b a) refl refl
  where
    by : (s t : Bool) → le_z (a *ℤ pos 1) (b *ℤ pos 1) ≡ s → lt_z b a ≡ t → cond s (whole a) (whole b) ≡ whole (cond t b a)
    by true true e f = absurd (omega (arith, ints))
    by true false e f = refl
    by false true e f = refl
    by false false e f = absurd (omega (arith, ints))

-- ---- a straight line between whole values, at its own ends
pub at_start : (t t' : ℕ) (v w : ℤ) → t < t' → half_up (straight t (whole v) t' (whole w) t) ≡ v
at_start t t' v w lt = let h = through_ends.start t t' v w lt in half_up_value _ _ h.0 h.1 ∙ half_up_of_whole v

pub at_end : (t t' : ℕ) (v w : ℤ) → t < t' → half_up (straight t (whole v) t' (whole w) t') ≡ w
at_end t t' v w lt = let h = through_ends.end t t' v w lt in half_up_value _ _ h.0 h.1 ∙ half_up_of_whole w
