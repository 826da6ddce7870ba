-- Limits of signed numbers, of their sums and products, and of what half-up gives.
use Rattle.std.proofs.Common.{◌≡◌, ℕ, ◌+◌, ◌*◌, ◌^◌, ◌<◌, ◌≤◌, max, ℤ, pos, ◌+ℤ◌, ◌-ℤ◌, ◌*ℤ◌, neg_ℤ, ap, mul-le-mul_right, lt_of_mul-lt-mul_right, arith, SFits}
use mir.Syntax.{w128}
use borrow.Author.Differences.{up, down, ints, sum_is_lem, neg_is, product_is}
use Rattle.exact.specs.Fractions.{frac}
use Rattle.exact.specs.Rounding.{half_up}
use Rattle.exact.specs.Limits.{Within}
use Rattle.exact.proofs.Rounding.{Nearest, nearest}

-- by naturals
pub within_out : {A : ℕ} {z : ℤ} → Within A z → (up z ≤ A + down z) × (down z ≤ A + up z)
within_out h = (omega (arith, ints, h.least, h.most), omega (arith, ints, h.least, h.most))

pub within_in : {A : ℕ} {z : ℤ} → up z ≤ A + down z → down z ≤ A + up z → Within A z
within_in h k = record { least = omega (arith, ints); most = omega (arith, ints) }

pub within_more : {A B : ℕ} {z : ℤ} → A ≤ B → Within A z → Within B z
within_more le h = let (k, l) = within_out h in within_in (omega arith) (omega arith)

pub within-+ : {A B : ℕ} {a b : ℤ} → Within A a → Within B b → Within (A + B) (a +ℤ b)
within-+ {a = a} {b = b} h k = let p = within_out h in let q = within_out k in within_in (omega (arith, sum_is_lem a b)) (omega (arith, sum_is_lem a b))

pub within-- : {A B : ℕ} {a b : ℤ} → Within A a → Within B b → Within (A + B) (a -ℤ b)
within-- {a = a} {b = b} h k = let p = within_out h in let q = within_out k in
    within_in (omega (arith, sum_is_lem a (neg_ℤ b), neg_is b)) (omega (arith, sum_is_lem a (neg_ℤ b), neg_is b))

pub within-* : {A : ℕ} {a : ℤ} (k : ℕ) → Within A a → Within (A * k) (a *ℤ pos k)
within-* {A} {a} k h = let p = within_out h in
    within_in (omega (arith, product_is a (pos k), mul-le-mul_right k p.0, mul-le-mul_right k p.1))
    (omega (arith, product_is a (pos k), mul-le-mul_right k p.0, mul-le-mul_right k p.1))

pub within_fits : {A : ℕ} {z : ℤ} → A < 2 ^ 127 → Within A z → SFits w128 z
within_fits lt h = let p = within_out h in omega (arith, ints)

-- what is within A times d, over d, rounds within A
nearest_within : (A d : ℕ) (g l : ℕ) (q : ℤ) → 0 < d → g ≤ A * d + l → l ≤ A * d + g → Nearest g l d q → Within A q
nearest_within A d g l q p h k r =
    within_in (let z : up q < A + down q + 1 = lt_of_mul-lt-mul_right d (omega arith) in omega arith)
    (let z : down q < A + up q + 1 = lt_of_mul-lt-mul_right d (omega arith) in omega arith)

pub half_up_within : (A d : ℕ) (n : ℤ) → 0 < d → Within (A * d) n → Within A (half_up (frac n d))
unfolding frac
half_up_within A d n p h =
    let e : max 1 d ≡ d = omega arith in
    let f : A * max 1 d ≡ A * d = ap (λ (m : ℕ). A * m) e in
    let k = within_out h in
    nearest_within A (max 1 d) (up n) (down n) (half_up (frac n d)) (omega arith) (omega arith) (omega arith) (nearest (frac n d))
