-- A level value stays what it is: its mean, the line through it and its trapezoid average.
use Rattle.std.proofs.Common.{◌≡◌, ℕ, ◌+◌, ◌-◌, ◌*◌, ◌<◌, ◌≤◌, ltb, List, [], ◌∷◌, length, pos, refl, arith}
use Rattle.std.proofs.lemmas.Bool.{cond_both}
use Rattle.exact.specs.Fractions.{Fraction, whole, ◌⊕◌, ◌·◌, ◌÷◌, Equal}
use Rattle.exact.specs.Lines.{straight, line_from, line}
use Rattle.exact.specs.Averages.{sum_of, mean, trapezoids, average, Climbs, Levels}
use Rattle.exact.proofs.Naturals.{reads_self, reads_whole, reads-⊕, reads-⊖, reads-·, reads-÷}
use Rattle.exact.proofs.Near.{Near, near_refl, near_trans, near-⊕, near-÷, near_same, near_equal}
use Rattle.exact.proofs.NearLines.{gaps}
use Rattle.exact.proofs.Order.{reads_by}

-- ---- times that do not fall
pub climbs_upto : {A : Type 0} (time : A → ℕ) (t : ℕ) (ks : List A) (t' : ℕ) → Climbs time t ks t' → t ≤ t'
climbs_upto time t [] t' h = h
climbs_upto time t (a ∷ ks) t' h = omega (arith, h.0, climbs_upto time (time a) ks t' h.1)

pub climbs_gaps : {A : Type 0} (time : A → ℕ) (t : ℕ) (ks : List A) (t' : ℕ) → Climbs time t ks t' → gaps time t ks t' ≡ t' - t
climbs_gaps time t [] t' h = refl
climbs_gaps time t (a ∷ ks) t' h = omega (arith, h.0, climbs_upto time (time a) ks t' h.1, climbs_gaps time (time a) ks t' h.1)

-- ---- v times j and v times k
module _ (v : Fraction) where
  times_none : Near 0 (whole (pos 0)) (v · 0)
  times_none = near_same (reads_whole (pos 0)) (reads-· 0 reads_self) (omega arith)

  pub times_more : (j k m : ℕ) → j + k ≡ m → Near 0 (v · j ⊕ v · k) (v · m)
  times_more j k m e = near_same (reads-⊕ (reads-· j reads_self) (reads-· k reads_self)) (reads-· m reads_self) (rw (← e) (omega arith))

  times_one : Near 0 v (v · 1)
  times_one = near_same reads_self (reads-· 1 reads_self) (omega arith)

  twice : (k : ℕ) → Near 0 ((v ⊕ v) · k) (v · (2 * k))
  twice k = near_same (reads-· k (reads-⊕ reads_self reads_self)) (reads-· (2 * k) reads_self) (omega arith)

  times_over : (k : ℕ) → 0 < k → Near 0 (v · k ÷ k) v
  times_over k p = near_same (reads_by k p (reads-· k reads_self)) reads_self (omega arith)

  flat : (t t' u : ℕ) → Near 0 (straight t v t' v u) v
  flat t t' u = near_same (reads-⊕ reads_self (reads-÷ (t' - t) (reads-· (u - t) (reads-⊖ reads_self reads_self)))) reads_self (omega arith)

  -- ---- over the entries of a list
  sum_level : {A : Type 0} (ks : List A) → Near 0 (sum_of (λ _. v) ks) (v · length ks)
  sum_level [] = times_none
  sum_level (a ∷ ks) = near_trans (near-⊕ times_one (sum_level ks)) (times_more 1 (length ks) _ (omega arith))

  pub mean_level : {A : Type 0} (ks : List A) → 0 < length ks → Equal (mean (λ _. v) ks) v
  mean_level ks p = near_equal (near_trans {n = 0} (near-÷ (length ks) (omega arith) (sum_level ks)) (times_over (length ks) p))

  module _ {A : Type 0} (time : A → ℕ) where
    line_from_level : (t : ℕ) (ks : List A) (u : ℕ) → Near 0 (line_from time (λ _. v) t v ks u) v
    line_from_level t [] u = near_refl
    line_from_level t (a ∷ ks) u = cond_both (ltb u (time a)) _ _ (λ x. Near 0 x v) (λ _. flat t (time a) u) (λ _. line_from_level (time a) ks u)

    pub line_level : (ks : List A) (u : ℕ) → 0 < length ks → Equal (line time (λ _. v) ks u) v
    line_level [] u p = absurd (omega arith)
    line_level (a ∷ ks) u p = near_equal (line_from_level (time a) ks u)

    trapezoids_level : (t : ℕ) (ks : List A) (t' : ℕ) → Near 0 (trapezoids time (λ _. v) t v ks t' v) (v · (2 * gaps time t ks t'))
    trapezoids_level t [] t' = twice (t' - t)
    trapezoids_level t (a ∷ ks) t' = near_trans (near-⊕ (twice (time a - t)) (trapezoids_level (time a) ks t')) (times_more _ _ _ (omega arith))

    pub average_level : (t : ℕ) (ks : List A) (t' : ℕ) → t < t' → Climbs time t ks t' → Equal (average time (λ _. v) t v ks t' v) v
    average_level t ks t' lt h =
        let area = rw (climbs_gaps time t ks t' h) at (trapezoids_level t ks t') in
        near_equal (near_trans {n = 0} (near-÷ (2 * (t' - t)) (omega arith) area) (times_over (2 * (t' - t)) (omega arith)))

pub levels : Levels
levels = record { mean_level = λ v. mean_level v; line_level = λ v. line_level v (λ s. s); average_level = λ v. average_level v (λ s. s) }
