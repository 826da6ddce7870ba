-- What half-up gives: the greatest whole number that is not above the fraction and one half.
use Rattle.std.proofs.Common.{◌≡◌, ℕ, ◌+◌, ◌*◌, ◌<◌, ◌≤◌, max, ℤ, pos, negsuc, ◌+ℤ◌, ◌*ℤ◌, ◌≤ℤ◌, ap, mul-le-mul_right, lt_of_mul-lt-mul_right, mul-lt-mul_of_pos_right, div-mul-le_self, le_of_mul-le-mul_right, arith}
use native.Mathlib.Nat.{lt-div-mul-add}
use Rattle.std.specs.Int.{int_div_euclid}
use borrow.Author.Differences.{up, down, ints, sum_is_lem, same_in}
use Rattle.exact.specs.Fractions.{Fraction, ◌⊕◌, ◌·◌, ◌≼◌, ◌≺◌, whole, frac}
use Rattle.exact.specs.Rounding.{HalfUp, half_up, and_half, Rounds}
use Rattle.exact.proofs.Naturals.{Reads, reads_self, reads-⊕, reads_whole, reads_frac, reads-·, reads_whole_times, ≼-in, ≼-out, ≺-in}
use Rattle.exact.proofs.Near.{Near, under_in}

-- rounded down
floor_is : (z : ℤ) (m : ℕ) → 0 < m
    → (up (int_div_euclid z (pos m)) * m + down z ≤ up z + down (int_div_euclid z (pos m)) * m) × (up z + down (int_div_euclid z (pos m)) * m < up (int_div_euclid z (pos m)) * m + m + down z)
floor_is (pos a) m p = omega (arith, div-mul-le_self a m, lt-div-mul-add {a = a} {b = m} p)
floor_is (negsuc a) m p = omega (arith, div-mul-le_self a m, lt-div-mul-add {a = a} {b = m} p)

-- q is the half-up of (g - l) / b
abbrev pub Nearest : (g l b : ℕ) → ℤ → Type 0
Nearest g l b q = (2 * (up q * b) + 2 * l ≤ 2 * g + b + 2 * (down q * b)) × (2 * g + 2 * (down q * b) < 2 * (up q * b) + b + 2 * l)

pub nearest : (x : Fraction) → Nearest (up x.top) (down x.top) x.bottom (half_up x)
unfolding half_up
nearest x = let f = floor_is (x.top *ℤ pos 2 +ℤ pos x.bottom) (2 * x.bottom) (omega (arith, x.solid)) in omega (arith, ints)

nearest_once : (g l b : ℕ) (q q' : ℤ) → Nearest g l b q → Nearest g l b q' → up q + down q' < up q' + down q + 1
nearest_once g l b q q' h h' = lt_of_mul-lt-mul_right b (omega arith)

nearest_unique : (g l b : ℕ) (q q' : ℤ) → Nearest g l b q → Nearest g l b q' → q ≡ q'
nearest_unique g l b q q' h h' = same_in q q' (omega (arith, nearest_once g l b q q' h h', nearest_once g l b q' q h' h))

-- equal fractions round alike
nearest_same : (g l b g' l' b' : ℕ) (q : ℤ) → 0 < b → 0 < b' → g * b' + l' * b ≡ g' * b + l * b' → Nearest g' l' b' q → Nearest g l b q
nearest_same g l b g' l' b' q o p e h = (
  le_of_mul-le-mul_right {k = b'} (omega (arith, mul-le-mul_right b h.0)) p,
  lt_of_mul-lt-mul_right b' (omega (arith, mul-lt-mul_of_pos_right h.1 o)),
)

-- what rounds as x does is half-up of x
pub half_up_from : {x : Fraction} {g l b : ℕ} (q : ℤ) → Reads x g l b → 0 < b → Nearest g l b q → half_up x ≡ q
half_up_from {x} {g} {l} {b} q h p k =
    nearest_unique _ _ _ (half_up x) q (nearest x) (nearest_same _ _ _ g l b q x.solid p (rw h.bottom_is (omega (arith, ap (λ (n : ℕ). n * b) h.top_is))) k)

-- equal fractions have one half-up
pub half_up_value : (x y : Fraction) → x ≼ y → y ≼ x → half_up x ≡ half_up y
half_up_value x y h k =
    nearest_unique _ _ _ (half_up x) (half_up y) (nearest x)
    (nearest_same _ _ _ _ _ _ (half_up y) x.solid y.solid (omega (arith, ≼-out reads_self reads_self h, ≼-out reads_self reads_self k)) (nearest y))

-- a whole number more
pub half_up_whole : (x : Fraction) (z : ℤ) → half_up (x ⊕ whole z) ≡ half_up x +ℤ z
half_up_whole x z =
    half_up_from (half_up x +ℤ z) (reads-⊕ reads_self (reads_whole z)) (omega (arith, x.solid)) (omega (arith, nearest x, ap (λ (n : ℕ). n * x.bottom) (sum_is_lem (half_up x) z)))

-- a fraction and one half, by naturals
reads_half : (x : Fraction) → Reads (and_half x) (up x.top * 2 + 1 * x.bottom) (down x.top * 2 + 0 * x.bottom) (x.bottom * 2)
reads_half x = reads-⊕ reads_self (reads_frac (pos 1) 2)

pub half_up_below : (x : Fraction) → whole (half_up x) ≼ and_half x
half_up_below x = ≼-in (reads_whole (half_up x)) (reads_half x) (omega (arith, nearest x))

pub half_up_greatest : (x : Fraction) (z : ℤ) → whole z ≼ and_half x → z ≤ℤ half_up x
half_up_greatest x z h =
    let k = ≼-out (reads_whole z) (reads_half x) h in
    let lt : up z + down (half_up x) < up (half_up x) + down z + 1 = lt_of_mul-lt-mul_right x.bottom (omega (arith, nearest x)) in
    omega (arith, ints)

pub half_up_above : (x : Fraction) → and_half x ≺ whole (half_up x) ⊕ whole (pos 1)
half_up_above x = ≺-in (reads_half x) (reads-⊕ (reads_whole (half_up x)) (reads_whole (pos 1))) (omega (arith, nearest x))

-- at most one half away, in hundredths
pub half_up_near : (x : Fraction) → Near 50 (whole (half_up x)) x
half_up_near x =
    record { over = under_in (reads_whole (half_up x)) reads_self (omega (arith, nearest x)); under = under_in reads_self (reads_whole (half_up x)) (omega (arith, nearest x)) }

-- how code finds it
pub half_up_frac : (n : ℤ) (d : ℕ) → 0 < d → half_up (frac n d) ≡ int_div_euclid (pos 2 *ℤ n +ℤ pos d) (pos (2 * d))
unfolding half_up frac
half_up_frac n d p =
    let e : max 1 d ≡ d = omega arith in
    let f : n *ℤ pos 2 +ℤ pos d ≡ pos 2 *ℤ n +ℤ pos d = omega (arith, ints) in
    rw e (ap (λ (z : ℤ). int_div_euclid z (pos (2 * d))) f)

-- the rule has exactly one answer
pub half_up_is : (x : Fraction) → HalfUp x (half_up x)
half_up_is x = record { not_above = half_up_below x; greatest = half_up_greatest x }

pub half_up_only : (x : Fraction) (r : ℤ) → HalfUp x r → r ≡ half_up x
half_up_only x r h =
    let p : r ≤ℤ half_up x = half_up_greatest x r h.not_above in
    let q : half_up x ≤ℤ r = h.greatest (half_up x) (half_up_below x) in
    omega (arith, ints)

-- ---- whole limits of a fraction are limits of its half-up
pub half_up_low : (l : ℤ) (x : Fraction) (r : ℤ) → HalfUp x r → whole l ≼ x → l ≤ℤ r
half_up_low l x r u h = u.greatest l (≼-in (reads_whole l) (reads_half x) (omega (arith, ≼-out (reads_whole l) (reads_self {x = x}) h)))

pub half_up_high : (h : ℤ) (x : Fraction) (r : ℤ) → HalfUp x r → x ≼ whole h → r ≤ℤ h
half_up_high h x r u p =
    let k = ≼-out (reads_whole r) (reads_half x) u.not_above in
    let q = ≼-out (reads_self {x = x}) (reads_whole h) p in
    let o = x.solid in
    let lt : up r + down h < up h + down r + 1 = lt_of_mul-lt-mul_right x.bottom (omega arith) in
    omega (arith, ints)

-- a factor keeps whole limits
pub times_low : (l : ℤ) (x : Fraction) (k : ℕ) → whole l ≼ x → whole (l *ℤ pos k) ≼ x · k
times_low l x k h = ≼-in (reads_whole_times l k) (reads-· k reads_self) (omega (arith, mul-le-mul_right k (≼-out (reads_whole l) (reads_self {x = x}) h)))

pub times_high : (h : ℤ) (x : Fraction) (k : ℕ) → x ≼ whole h → x · k ≼ whole (h *ℤ pos k)
times_high h x k p = ≼-in (reads-· k reads_self) (reads_whole_times h k) (omega (arith, mul-le-mul_right k (≼-out (reads_self {x = x}) (reads_whole h) p)))

pub rounds : Rounds
rounds = record { is = half_up_is; only = half_up_only; moves = half_up_whole }
