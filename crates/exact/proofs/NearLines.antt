-- How means, straight lines and trapezoid averages carry an error: values that are each off by at most n hundredths give a result that is.
use Rattle.std.proofs.Common.{◌≡◌, ℕ, ◌+◌, ◌-◌, ◌*◌, ◌<◌, ◌≤◌, max, Bool, true, false, cond, ltb, List, [], ◌∷◌, length, refl, ap, mul-le-mul_left, arith}
use Rattle.std.proofs.lemmas.Bool.{ltb-true}
use Rattle.exact.specs.Fractions.{Fraction, ◌⊕◌, ◌⊖◌, ◌·◌, ◌÷◌}
use Rattle.exact.specs.Lines.{straight, line_from, line}
use Rattle.exact.specs.Averages.{sum_of, mean, trapezoids, average}
use Rattle.exact.proofs.Naturals.{reads_self, reads-⊕, reads-⊖, reads-·, reads-÷}
use Rattle.exact.proofs.Near.{Under, under_after, under_then, under-÷, under-⊕, under-·, under_more, Near, near_refl, near_more, near-⊕, near-·, near-÷, near_same}

-- ---- the straight line is a weighted mean of its ends
factor : (A L G A' b B G₁ L₁ B₁ : ℕ) → A + L ≡ G + A' → G₁ ≡ b * A → L₁ ≡ b * A' → B₁ ≡ b * B → G₁ * B + L * B₁ ≡ G * B₁ + L₁ * B
factor A L G A' b B G₁ L₁ B₁ e p q s = rw (p, q, s) (omega (arith, ap (λ (n : ℕ). n * (b * B)) e))

weights : (g l b g' l' b' j k M : ℕ) → j + k ≡ M → (g * (b' * b * M) + (g' * b + l * b') * k * b) * (b * b' * M) + (l * j * b' + l' * k * b) * (b * (b' * b * M)) ≡ (g * j * b' + g' * k * b) * (b * (b' * b * M)) + (l * (b' * b * M) + (l' * b + g * b') * k * b) * (b * b' * M)
weights g l b g' l' b' j k M e =
    factor (g * b' * M + (g' * b + l * b') * k) (l * j * b' + l' * k * b) (g * j * b' + g' * k * b) (l * b' * M + (l' * b + g * b') * k) b (b * b' * M) _ _ _
    (rw (← e) (omega arith)) (omega arith) (omega arith) (omega arith)

module _ (v v' : Fraction) (j k d : ℕ) (e : j + k ≡ max 1 d) where
  pub weighted : Near 0 (v ⊕ (v' ⊖ v) · k ÷ d) ((v · j ⊕ v' · k) ÷ d)
  weighted = near_same (reads-⊕ reads_self (reads-÷ d (reads-· k (reads-⊖ reads_self reads_self)))) (reads-÷ d (reads-⊕ (reads-· j reads_self) (reads-· k reads_self)))
      (weights _ _ v.bottom _ _ v'.bottom j k (max 1 d) e)

straight_under : {n : ℕ} {v v' w w' : Fraction} (t t' u : ℕ) → u < t' → Under n v w → Under n v' w' → Under n (straight t v t' v' u) (straight t w t' w' u)
straight_under {n} {v} {v'} {w} {w'} t t' u lt h h' =
    let j : ℕ = max 1 (t' - t) - (u - t) in
    let e : j + (u - t) ≡ max 1 (t' - t) = omega arith in
    under_after (weighted v v' j (u - t) (t' - t) e).over
    (under_then (under-÷ (t' - t) (under_more (omega (arith, ap (λ (m : ℕ). n * m) e)) (under-⊕ (under-· j h) (under-· (u - t) h'))))
    (weighted w w' j (u - t) (t' - t) e).under)

pub straight_near : {n : ℕ} {v v' w w' : Fraction} (t t' u : ℕ) → u < t' → Near n v w → Near n v' w' → Near n (straight t v t' v' u) (straight t w t' w' u)
straight_near t t' u lt h h' = record { over = straight_under t t' u lt h.over h'.over; under = straight_under t t' u lt h.under h'.under }

-- the gaps from t through the entries to t'
abbrev pub gaps : {A : Type 0} → (A → ℕ) → ℕ → List A → ℕ → ℕ
gaps time t [] t' = t' - t
gaps time t (a ∷ ks) t' = (time a - t) + gaps time (time a) ks t'

-- ---- over the entries of a list, each value off by at most n hundredths
module _ {A : Type 0} (time : A → ℕ) (f g : A → Fraction) (n : ℕ) (near : (a : A) → Near n (f a) (g a)) where
  sum_near : (ks : List A) → Near (n * length ks) (sum_of f ks) (sum_of g ks)
  sum_near [] = near_more (omega arith) near_refl
  sum_near (a ∷ ks) = near_more (omega arith) (near-⊕ (near a) (sum_near ks))

  pub mean_near : (ks : List A) → Near n (mean f ks) (mean g ks)
  mean_near ks = near-÷ (length ks) (omega arith) (sum_near ks)

  line_step : (t : ℕ) (v w : Fraction) (a : A) (x y : Fraction) (u : ℕ) (s : Bool) → ltb u (time a) ≡ s → Near n v w → Near n x y → Near n (cond s (straight t v (time a) (f a) u) x) (cond s (straight t w (time a) (g a) u) y)
  line_step t v w a x y u true e h k = straight_near t (time a) u (ltb-true u (time a) e) h (near a)
  line_step t v w a x y u false e h k = k

  line_from_near : (t : ℕ) (v w : Fraction) (ks : List A) (u : ℕ) → Near n v w → Near n (line_from time f t v ks u) (line_from time g t w ks u)
  line_from_near t v w [] u h = h
  line_from_near t v w (a ∷ ks) u h = line_step t v w a _ _ u (ltb u (time a)) refl h (line_from_near (time a) (f a) (g a) ks u (near a))

  pub line_near : (ks : List A) (u : ℕ) → Near n (line time f ks u) (line time g ks u)
  line_near [] u = near_more (omega arith) near_refl
  line_near (a ∷ ks) u = line_from_near (time a) (f a) (g a) ks u (near a)

  trapezoids_near : (m : ℕ) → n ≤ m → (t : ℕ) (v w : Fraction) (ks : List A) (t' : ℕ) (v' w' : Fraction) → Near m v w → Near m v' w' → Near (m * (2 * gaps time t ks t')) (trapezoids time f t v ks t' v') (trapezoids time g t w ks t' w')
  trapezoids_near m le t v w [] t' v' w' h h' = near_more (omega arith) (near-· (t' - t) (near-⊕ h h'))
  trapezoids_near m le t v w (a ∷ ks) t' v' w' h h' =
      let here : Near m (f a) (g a) = near_more le (near a) in
      near_more (omega arith) (near-⊕ (near-· (time a - t) (near-⊕ h here)) (trapezoids_near m le (time a) (f a) (g a) ks t' v' w' here h'))

  pub average_near : (m : ℕ) → n ≤ m → (t : ℕ) (v w : Fraction) (ks : List A) (t' : ℕ) (v' w' : Fraction) → gaps time t ks t' ≤ t' - t → Near m v w → Near m v' w' → Near m (average time f t v ks t' v') (average time g t w ks t' w')
  average_near m le t v w ks t' v' w' short h h' =
      near-÷ (2 * (t' - t)) (omega (arith, mul-le-mul_left m short)) (trapezoids_near m le t v w ks t' v' w' h h')
