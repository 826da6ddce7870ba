-- Exact numbers. A fraction is a whole number over a whole number above 0.
-- `whole z` is z, `frac n d` is n over d; x ⊕ y and x ⊖ y are sum and difference, x · k is x times the whole number k, x ÷ k is x divided by it.
-- x ≼ y says that x is at most y, x ≺ y that it is less.
use Rattle.std.specs.Prelude.{ℕ, ◌*◌, ◌<◌, max, Bool, cond, ℤ, pos, ◌+ℤ◌, ◌-ℤ◌, ◌*ℤ◌, ◌≤ℤ◌, ◌<ℤ◌, int_le}
use Rattle.std.proofs.Common.{mul-pos, lit<}
use Rattle.std.proofs.Math.Nat.{le-max_left}

pub record Fraction : Type 0 where
  pub top : ℤ
  pub bottom : ℕ
  pub solid : 0 < bottom

infixl 60 ◌⊕◌ ◌⊖◌
infixl 70 ◌·◌ ◌÷◌
infix 50 ◌≼◌ ◌≺◌
-- n over d, for d above 0
unfoldable pub frac : ℤ → ℕ → Fraction
frac n d = record { top = n; bottom = max 1 d; solid = le-max_left 1 d }

unfoldable pub whole : ℤ → Fraction
whole z = record { top = z; bottom = 1; solid = lit< tt }

unfoldable pub ◌⊕◌ : Fraction → Fraction → Fraction
x ⊕ y = record { top = x.top *ℤ pos y.bottom +ℤ y.top *ℤ pos x.bottom; bottom = x.bottom * y.bottom; solid = mul-pos x.solid y.solid }

unfoldable pub ◌⊖◌ : Fraction → Fraction → Fraction
x ⊖ y = record { top = x.top *ℤ pos y.bottom -ℤ y.top *ℤ pos x.bottom; bottom = x.bottom * y.bottom; solid = mul-pos x.solid y.solid }

unfoldable pub ◌·◌ : Fraction → ℕ → Fraction
x · k = record { top = x.top *ℤ pos k; bottom = x.bottom; solid = x.solid }

-- for k above 0
unfoldable pub ◌÷◌ : Fraction → ℕ → Fraction
x ÷ k = record { top = x.top; bottom = x.bottom * max 1 k; solid = mul-pos x.solid (le-max_left 1 k) }

-- the order, by cross-multiplication
pub record ◌≼◌ (x y : Fraction) : Type 0 where
  pub le : (x.top *ℤ pos y.bottom) ≤ℤ (y.top *ℤ pos x.bottom)

pub record ◌≺◌ (x y : Fraction) : Type 0 where
  pub lt : (x.top *ℤ pos y.bottom) <ℤ (y.top *ℤ pos x.bottom)

-- equal as numbers
abbrev pub Equal : Fraction → Fraction → Type 0
Equal x y = (x ≼ y) × (y ≼ x)

-- whether x is at most y
unfoldable pub at_most : Fraction → Fraction → Bool
at_most x y = int_le (x.top *ℤ pos y.bottom) (y.top *ℤ pos x.bottom)

-- the lesser and the greater of two
abbrev pub lesser : Fraction → Fraction → Fraction
lesser x y = cond (at_most x y) x y

abbrev pub greater : Fraction → Fraction → Fraction
greater x y = cond (at_most x y) y x
