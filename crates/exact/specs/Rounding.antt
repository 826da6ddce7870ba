-- Half-up: the whole number that a fraction is rounded to.
use Rattle.std.specs.Prelude.{◌≡◌, ◌*◌, ℤ, pos, ◌+ℤ◌, ◌*ℤ◌, ◌≤ℤ◌}
use Rattle.std.specs.Int.{int_div_euclid}
use Rattle.exact.specs.Fractions.{Fraction, whole, frac, ◌⊕◌, ◌≼◌}

-- x and one half
abbrev pub and_half : Fraction → Fraction
and_half x = x ⊕ frac (pos 1) 2

-- r is the half-up of x: the greatest whole number that is not above x and one half
pub record HalfUp (x : Fraction) (r : ℤ) : Type 0 where
  pub not_above : whole r ≼ and_half x
  pub greatest : (k : ℤ) → whole k ≼ and_half x → k ≤ℤ r

-- that number: twice the top and the bottom, over twice the bottom, rounded down
unfoldable pub half_up : Fraction → ℤ
half_up x = int_div_euclid (x.top *ℤ pos 2 +ℤ pos x.bottom) (pos (2 * x.bottom))

-- what holds of half-up: `half_up x` is one, there is no other, and a whole number more moves it by that number
pub record Rounds : Type 0 where
  pub is : (x : Fraction) → HalfUp x (half_up x)
  pub only : (x : Fraction) (r : ℤ) → HalfUp x r → r ≡ half_up x
  pub moves : (x : Fraction) (z : ℤ) → half_up (x ⊕ whole z) ≡ half_up x +ℤ z
