-- Fractions by natural numbers, over which arithmetic is decided: `Reads x g l b` says that x is (g - l) / b.
use Rattle.std.proofs.Common.{◌≡◌, ℕ, ◌+◌, ◌*◌, ◌<◌, ◌≤◌, max, true, ℤ, pos, ◌*ℤ◌, refl, ap, arith}
use Rattle.std.proofs.lemmas.Bool.{true_from_ne_false}
use borrow.Author.Differences.{up, down, ints}
use Rattle.exact.specs.Fractions.{Fraction, ◌⊕◌, ◌⊖◌, ◌·◌, ◌÷◌, ◌≼◌, ◌≺◌, whole, frac, at_most}

-- ---- a fraction by naturals: x is (g - l) / b
pub record Reads (x : Fraction) (g l b : ℕ) : Type 0 where
  pub top_is : up x.top + l ≡ down x.top + g
  pub bottom_is : x.bottom ≡ b

pub reads_self : {x : Fraction} → Reads x (up x.top) (down x.top) x.bottom
reads_self {x} = record { top_is = omega arith; bottom_is = refl }

pub reads_whole : (z : ℤ) → Reads (whole z) (up z) (down z) 1
unfolding whole
reads_whole z = record { top_is = omega arith; bottom_is = refl }

pub reads_whole_times : (z : ℤ) (k : ℕ) → Reads (whole (z *ℤ pos k)) (up z * k) (down z * k) 1
unfolding whole
reads_whole_times z k = record { top_is = omega (arith, ints); bottom_is = refl }

pub reads_frac : (z : ℤ) (d : ℕ) → Reads (frac z d) (up z) (down z) (max 1 d)
unfolding frac
reads_frac z d = record { top_is = omega arith; bottom_is = refl }

pub reads-· : {x : Fraction} {g l b : ℕ} (k : ℕ) → Reads x g l b → Reads (x · k) (g * k) (l * k) b
unfolding ◌·◌
reads-· k h = record { top_is = omega (arith, ints, ap (λ (n : ℕ). n * k) h.top_is); bottom_is = h.bottom_is }

pub reads-÷ : {x : Fraction} {g l b : ℕ} (k : ℕ) → Reads x g l b → Reads (x ÷ k) g l (b * max 1 k)
unfolding ◌÷◌
reads-÷ k h = record { top_is = h.top_is; bottom_is = ap (λ (n : ℕ). n * max 1 k) h.bottom_is }

module _ {x y : Fraction} {g l b g' l' b' : ℕ} (h : Reads x g l b) (h' : Reads y g' l' b') where
  pub reads-⊕ : Reads (x ⊕ y) (g * b' + g' * b) (l * b' + l' * b) (b * b')
  unfolding ◌⊕◌
  reads-⊕ = rw (← h.bottom_is, ← h'.bottom_is) (record { top_is = omega (arith, ints, ap (λ (n : ℕ). n * y.bottom) h.top_is, ap (λ (n : ℕ). n * x.bottom) h'.top_is); bottom_is = refl })

  pub reads-⊖ : Reads (x ⊖ y) (g * b' + l' * b) (l * b' + g' * b) (b * b')
  unfolding ◌⊖◌
  reads-⊖ = rw (← h.bottom_is, ← h'.bottom_is) (record { top_is = omega (arith, ints, ap (λ (n : ℕ). n * y.bottom) h.top_is, ap (λ (n : ℕ). n * x.bottom) h'.top_is); bottom_is = refl })

  -- the order by naturals
  pub ≼-out : x ≼ y → g * b' + l' * b ≤ g' * b + l * b'
  ≼-out k = rw (← h.bottom_is, ← h'.bottom_is) (omega (arith, ints, k.le, ap (λ (n : ℕ). n * y.bottom) h.top_is, ap (λ (n : ℕ). n * x.bottom) h'.top_is))

  pub ≼-in : g * b' + l' * b ≤ g' * b + l * b' → x ≼ y
  ≼-in k = let k' = rw (← h.bottom_is, ← h'.bottom_is) at k in
      record { le = omega (arith, ints, k', ap (λ (n : ℕ). n * y.bottom) h.top_is, ap (λ (n : ℕ). n * x.bottom) h'.top_is) }

  pub ≺-in : g * b' + l' * b < g' * b + l * b' → x ≺ y
  ≺-in k = let k' = rw (← h.bottom_is, ← h'.bottom_is) at k in
      record { lt = omega (arith, ints, k', ap (λ (n : ℕ). n * y.bottom) h.top_is, ap (λ (n : ℕ). n * x.bottom) h'.top_is) }

-- ---- the order as a test
pub at_most_yes : (x y : Fraction) → at_most x y ≡ true → x ≼ y
unfolding at_most
at_most_yes x y e = record { le = omega (arith, ints) }

pub at_most_so : (x y : Fraction) → x ≼ y → at_most x y ≡ true
unfolding at_most
at_most_so x y h = true_from_ne_false _ (λ e. omega (arith, ints, h.le))
