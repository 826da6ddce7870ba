-- The order of fractions: it is total, it is passed on, and what is read by naturals can be read out of it again.
use Rattle.std.proofs.Common.{ℕ, ◌+◌, ◌*◌, ◌<◌, ◌≤◌, ◌⊎◌, ℤ, subst, inl, inr, ⊎_elim, mul-le-mul_right, lt_of_mul-lt-mul_right, mul-lt-mul_of_pos_right, le_of_mul-le-mul_right, arith}
use borrow.Author.Differences.{up, down}
use Rattle.std.proofs.lemmas.Bool.{cases_lt}
use Rattle.std.proofs.Math.Nat.{max-eq_right}
use Rattle.exact.specs.Fractions.{Fraction, frac, ◌÷◌, ◌≼◌, ◌≺◌}
use Rattle.exact.proofs.Naturals.{Reads, reads_self, reads_frac, reads-÷, ≼-in, ≼-out, ≺-in}
use Rattle.exact.proofs.Lines.{≺-out}

pub reads_over : (z : ℤ) (d : ℕ) → 0 < d → Reads (frac z d) (up z) (down z) d
reads_over z d h = subst (λ (b : ℕ). Reads (frac z d) (up z) (down z) b) (max-eq_right h) (reads_frac z d)

pub reads_by : {x : Fraction} {g l b : ℕ} (k : ℕ) → 0 < k → Reads x g l b → Reads (x ÷ k) g l (b * k)
reads_by {x} {g} {l} {b} k h r = subst (λ (e : ℕ). Reads (x ÷ k) g l (b * e)) (max-eq_right h) (reads-÷ k r)

-- over opaque naturals: if a/b ≤ c/d ≤ e/f, each read as a difference, then a/b ≤ e/f
le_chain : (g l b g' l' b' g'' l'' b'' : ℕ) → 0 < b' → g * b' + l' * b ≤ g' * b + l * b' → g' * b'' + l'' * b' ≤ g'' * b' + l' * b'' → g * b'' + l'' * b ≤ g'' * b + l * b''
le_chain g l b g' l' b' g'' l'' b'' p h k = le_of_mul-le-mul_right {k = b'} (omega (arith, mul-le-mul_right b'' h, mul-le-mul_right b k)) p

lt_le_chain : (g l b g' l' b' g'' l'' b'' : ℕ) → 0 < b'' → g * b' + l' * b < g' * b + l * b' → g' * b'' + l'' * b' ≤ g'' * b' + l' * b'' → g * b'' + l'' * b < g'' * b + l * b''
lt_le_chain g l b g' l' b' g'' l'' b'' p h k = lt_of_mul-lt-mul_right b' (omega (arith, mul-lt-mul_of_pos_right h p, mul-le-mul_right b k))

le_lt_chain : (g l b g' l' b' g'' l'' b'' : ℕ) → 0 < b → g * b' + l' * b ≤ g' * b + l * b' → g' * b'' + l'' * b' < g'' * b' + l' * b'' → g * b'' + l'' * b < g'' * b + l * b''
le_lt_chain g l b g' l' b' g'' l'' b'' p h k = lt_of_mul-lt-mul_right b' (omega (arith, mul-le-mul_right b'' h, mul-lt-mul_of_pos_right k p))

module _ {x y z : Fraction} where
  pub ≼-≼ : x ≼ y → y ≼ z → x ≼ z
  ≼-≼ h k = ≼-in reads_self reads_self (le_chain _ _ _ _ _ _ _ _ _ y.solid (≼-out reads_self reads_self h) (≼-out reads_self reads_self k))

  pub ≺-≼ : x ≺ y → y ≼ z → x ≺ z
  ≺-≼ h k = ≺-in reads_self reads_self (lt_le_chain _ _ _ _ _ _ _ _ _ z.solid (≺-out reads_self reads_self h) (≼-out reads_self reads_self k))

  pub ≼-≺ : x ≼ y → y ≺ z → x ≺ z
  ≼-≺ h k = ≺-in reads_self reads_self (le_lt_chain _ _ _ _ _ _ _ _ _ x.solid (≼-out reads_self reads_self h) (≺-out reads_self reads_self k))

-- x is at most y, or y is less
pub ≼-or-≺ : (x y : Fraction) → (x ≼ y) ⊎ (y ≺ x)
≼-or-≺ x y =
    ⊎_elim (λ h. inr (≺-in reads_self reads_self h)) (λ h. inl (≼-in reads_self reads_self h))
    (cases_lt (up y.top * x.bottom + down x.top * y.bottom) (up x.top * y.bottom + down y.top * x.bottom))

pub ≺-not-≼ : {x y : Fraction} → x ≺ y → y ≼ x → ⊥
≺-not-≼ h k = let a = ≺-out reads_self reads_self h in let b = ≼-out reads_self reads_self k in omega arith
