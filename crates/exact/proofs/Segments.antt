-- Fractions on one straight line: `Scaled D v w x a b` says that D times x is a times v and b times w. How the trapezoids between such fractions join.
use Rattle.std.proofs.Common.{◌≡◌, ℕ, ◌+◌, ◌-◌, ◌*◌, ◌<◌, ◌≤◌, max, le_of_mul-le-mul_right, arith}
use Rattle.exact.specs.Fractions.{Fraction, ◌⊕◌, ◌·◌, ◌÷◌, ◌≼◌}
use Rattle.exact.specs.Lines.{straight}
use Rattle.exact.proofs.Naturals.{reads_self, reads-⊕, reads-·, ≼-in, ≼-out}
use Rattle.exact.proofs.Near.{Near, near_more, near_trans, near-⊕, near-·, near_same, near_equal, equal_near}
use Rattle.exact.proofs.NearLines.{weighted}
use Rattle.exact.proofs.Order.{reads_by}

pub near_sym : {n : ℕ} {x y : Fraction} → Near n x y → Near n y x
near_sym h = record { over = h.under; under = h.over }

-- equal as numbers, step by step
pub same_by : {x y z : Fraction} → Near 0 x y → Near 0 y z → Near 0 x z
same_by h k = near_trans {n = 0} {m = 0} h k

pub same-⊕ : {x y z w : Fraction} → Near 0 x y → Near 0 z w → Near 0 (x ⊕ z) (y ⊕ w)
same-⊕ h k = near-⊕ {n = 0} {m = 0} h k

pub same-· : {x y : Fraction} (k : ℕ) → Near 0 x y → Near 0 (x · k) (y · k)
same-· k h = near_more (omega arith) (near-· {n = 0} k h)

cancel : (k : ℕ) {x y : Fraction} → 0 < k → x · k ≼ y · k → x ≼ y
cancel k p h = ≼-in reads_self reads_self (le_of_mul-le-mul_right {k = k} (omega (arith, ≼-out (reads-· k reads_self) (reads-· k reads_self) h)) p)

pub same_cancel : (k : ℕ) {x y : Fraction} → 0 < k → Near 0 (x · k) (y · k) → Near 0 x y
same_cancel k p h = let e = near_equal h in equal_near (cancel k p e.0, cancel k p e.1)

-- divided, and multiplied again
pub times_back : (x : Fraction) (d : ℕ) → 0 < d → Near 0 (x ÷ d · d) x
times_back x d p = near_same (reads-· d (reads_by d p reads_self)) reads_self (omega arith)

-- ---- sums and multiples of two fractions
module _ (v w : Fraction) where
  sums : (a b c d : ℕ) → Near 0 ((v · a ⊕ w · b) ⊕ (v · c ⊕ w · d)) (v · (a + c) ⊕ w · (b + d))
  sums a b c d = near_same
      (reads-⊕ (reads-⊕ (reads-· a reads_self) (reads-· b reads_self)) (reads-⊕ (reads-· c reads_self) (reads-· d reads_self)))
      (reads-⊕ (reads-· (a + c) reads_self) (reads-· (b + d) reads_self)) (omega arith)

  multiples : (k a b : ℕ) → Near 0 ((v · a ⊕ w · b) · k) (v · (a * k) ⊕ w · (b * k))
  multiples k a b = near_same (reads-· k (reads-⊕ (reads-· a reads_self) (reads-· b reads_self))) (reads-⊕ (reads-· (a * k) reads_self) (reads-· (b * k) reads_self)) (omega arith)

  first_alone : (D : ℕ) → Near 0 (v · D) (v · D ⊕ w · 0)
  first_alone D = near_same (reads-· D reads_self) (reads-⊕ (reads-· D reads_self) (reads-· 0 reads_self)) (omega arith)

  second_alone : (D : ℕ) → Near 0 (w · D) (v · 0 ⊕ w · D)
  second_alone D = near_same (reads-· D reads_self) (reads-⊕ (reads-· 0 reads_self) (reads-· D reads_self)) (omega arith)

dist-· : (x y : Fraction) (D : ℕ) → Near 0 ((x ⊕ y) · D) (x · D ⊕ y · D)
dist-· x y D = near_same (reads-· D (reads-⊕ reads_self reads_self)) (reads-⊕ (reads-· D reads_self) (reads-· D reads_self)) (omega arith)

swap-· : (x : Fraction) (k D : ℕ) → Near 0 (x · k · D) (x · D · k)
swap-· x k D = near_same (reads-· D (reads-· k reads_self)) (reads-· k (reads-· D reads_self)) (omega arith)

pub record Scaled (D : ℕ) (v w x : Fraction) (a b : ℕ) : Type 0 where
  pub is : Near 0 (x · D) (v · a ⊕ w · b)

module _ {D : ℕ} {v w : Fraction} where
  pub scaled_first : Scaled D v w v D 0
  scaled_first = record { is = first_alone v w D }

  pub scaled_second : Scaled D v w w 0 D
  scaled_second = record { is = second_alone v w D }

  pub scaled_as : {x y : Fraction} {a b : ℕ} → Near 0 x y → Scaled D v w y a b → Scaled D v w x a b
  scaled_as h k = record { is = same_by (same-· D h) k.is }

  pub scaled-⊕ : {x y : Fraction} {a b c d : ℕ} → Scaled D v w x a b → Scaled D v w y c d → Scaled D v w (x ⊕ y) (a + c) (b + d)
  scaled-⊕ {x} {y} {a} {b} {c} {d} h k = record { is = same_by (dist-· x y D) (same_by (same-⊕ h.is k.is) (sums v w a b c d)) }

  pub scaled-· : {x : Fraction} {a b : ℕ} (k : ℕ) → Scaled D v w x a b → Scaled D v w (x · k) (a * k) (b * k)
  scaled-· {x} {a} {b} k h = record { is = same_by (swap-· x k D) (same_by (same-· k h.is) (multiples v w k a b)) }

  pub scaled_same : {x y : Fraction} {a b c d : ℕ} → 0 < D → a ≡ c → b ≡ d → Scaled D v w x a b → Scaled D v w y c d → Near 0 x y
  scaled_same {x} {y} {a} {b} {c} {d} p e e' h k = same_cancel D p (same_by (rw (e, e') at h.is) (near_sym k.is))

-- ---- a straight line
pub scaled_straight : (t s u : ℕ) (v w : Fraction) → t < s → t ≤ u → u ≤ s → Scaled (s - t) v w (straight t v s w u) (s - u) (u - t)
scaled_straight t s u v w lt after until =
    let e : (s - u) + (u - t) ≡ max 1 (s - t) = omega arith in
    record { is = same_by (same-· (s - t) (weighted v w (s - u) (u - t) (s - t) e)) (times_back _ (s - t) (omega arith)) }

-- the trapezoids from x over y to z, of one line, are one
weights_join : (D x y z j k : ℕ) → y + j ≡ x → z + k ≡ y → (x + y) * j + (y + z) * k ≡ (x + z) * (j + k)
weights_join D x y z j k e e' = rw (← e, ← e') (omega arith)

pub strips_join : {D : ℕ} {v w x y z : Fraction} {a a' b b' c c' : ℕ} (j k : ℕ) → 0 < D → b + j ≡ a → a' + j ≡ b' → c + k ≡ b → b' + k ≡ c'
    → Scaled D v w x a a' → Scaled D v w y b b' → Scaled D v w z c c' → Near 0 ((x ⊕ y) · j ⊕ (y ⊕ z) · k) ((x ⊕ z) · (j + k))
strips_join j k p e e' f f' hx hy hz =
    scaled_same p (rw (← e, ← f) (omega arith)) (rw (← f', ← e') (omega arith)) (scaled-⊕ (scaled-· j (scaled-⊕ hx hy)) (scaled-· k (scaled-⊕ hy hz))) (scaled-· (j + k) (scaled-⊕ hx hz))
