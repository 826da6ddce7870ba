-- `Near n x y`: the fractions x and y are at most n hundredths apart. Its laws.
use Rattle.std.proofs.Common.{◌≡◌, ℕ, ◌+◌, ◌*◌, ◌<◌, ◌≤◌, max, Bool, true, false, cond, pos, refl, mul-le-mul_right, lt_of_mul-lt-mul_right, mul-le-mul_left, mul-lt-mul_of_pos_right, mul-pos, le_of_mul-le-mul_right, arith}
use borrow.Author.Differences.{up, down, ints}
use Rattle.exact.specs.Fractions.{Fraction, ◌⊕◌, ◌⊖◌, ◌·◌, ◌÷◌, ◌≼◌, ◌≺◌, whole, frac, at_most, lesser, greater, Equal}
use Rattle.exact.proofs.Naturals.{Reads, reads_self, reads_whole, reads_frac, reads-⊕, reads-⊖, reads-·, reads-÷, ≼-in, ≼-out, ≺-in, at_most_yes}

-- ---- x is at most y and n hundredths
pub record Under (n : ℕ) (x y : Fraction) : Type 0 where
  pub is : x ≼ y ⊕ frac (pos n) 100

-- the same of (g - l) / b and (g' - l') / b'
abbrev pub Below : (n g l b g' l' b' : ℕ) → Type 0
Below n g l b g' l' b' = 100 * (g * b') + 100 * (l' * b) ≤ 100 * (g' * b) + 100 * (l * b') + n * (b * b')

module _ {n : ℕ} {x y : Fraction} {g l b g' l' b' : ℕ} (h : Reads x g l b) (h' : Reads y g' l' b') where
  pub under_out : Under n x y → Below n g l b g' l' b'
  under_out k = omega (arith, ≼-out h (reads-⊕ h' (reads_frac (pos n) 100)) k.is)

  pub under_in : Below n g l b g' l' b' → Under n x y
  under_in k = record { is = ≼-in h (reads-⊕ h' (reads_frac (pos n) 100)) (omega arith) }

below_trans : (n m g l b g' l' b' g'' l'' b'' : ℕ) → 0 < b' → Below n g l b g' l' b' → Below m g' l' b' g'' l'' b'' → Below (n + m) g l b g'' l'' b''
below_trans n m g l b g' l' b' g'' l'' b'' p h k =
    le_of_mul-le-mul_right {k = b'} (omega (arith, mul-le-mul_right b'' h, mul-le-mul_right b k)) p

-- a statement on the naturals of two fractions
abbrev Plain : ℕ → Fraction → Fraction → Type 0
Plain n x y = Below n (up x.top) (down x.top) x.bottom (up y.top) (down y.top) y.bottom

plain : {n : ℕ} {x y : Fraction} → Under n x y → Plain n x y
plain h = under_out reads_self reads_self h

unplain : {n : ℕ} {x y : Fraction} → Plain n x y → Under n x y
unplain h = under_in reads_self reads_self h

pub under_trans : {n m : ℕ} {x y z : Fraction} → Under n x y → Under m y z → Under (n + m) x z
under_trans {y = y} h k = under_in reads_self reads_self (below_trans _ _ _ _ _ _ _ _ _ _ _ y.solid (plain h) (plain k))

pub under_refl : {x : Fraction} → Under 0 x x
under_refl = under_in reads_self reads_self (omega arith)

pub under_more : {n m : ℕ} {x y : Fraction} → n ≤ m → Under n x y → Under m x y
under_more {x = x} {y = y} le h = under_in reads_self reads_self (omega (arith, plain h, mul-le-mul_right (x.bottom * y.bottom) le))

-- one side at a time: multiplied out, a call of `omega` may have 64 monomials
module _ (n g l b g' l' b' G L B : ℕ) (h : Below n g l b g' l' b') where
  below-⊕ˡ : Below n (g * B + G * b) (l * B + L * b) (b * B) (g' * B + G * b') (l' * B + L * b') (b' * B)
  below-⊕ˡ = omega (arith, mul-le-mul_right (B * B) h)

  below-⊕ʳ : Below n (G * b + g * B) (L * b + l * B) (B * b) (G * b' + g' * B) (L * b' + l' * B) (B * b')
  below-⊕ʳ = omega (arith, mul-le-mul_right (B * B) h)

  below-⊖ʳ : Below n (G * b' + l' * B) (L * b' + g' * B) (B * b') (G * b + l * B) (L * b + g * B) (B * b)
  below-⊖ʳ = omega (arith, mul-le-mul_right (B * B) h)

pub under-⊕ : {n m : ℕ} {x y z w : Fraction} → Under n x y → Under m z w → Under (n + m) (x ⊕ z) (y ⊕ w)
under-⊕ {y = y} {z = z} h k = under_trans {y = y ⊕ z}
    (under_in (reads-⊕ reads_self reads_self) (reads-⊕ reads_self reads_self) (below-⊕ˡ _ _ _ _ _ _ _ _ _ _ (plain h)))
    (under_in (reads-⊕ reads_self reads_self) (reads-⊕ reads_self reads_self) (below-⊕ʳ _ _ _ _ _ _ _ _ _ _ (plain k)))

pub under-⊖ : {n m : ℕ} {x y z w : Fraction} → Under n x y → Under m w z → Under (n + m) (x ⊖ z) (y ⊖ w)
under-⊖ {y = y} {z = z} h k = under_trans {y = y ⊖ z}
    (under_in (reads-⊖ reads_self reads_self) (reads-⊖ reads_self reads_self) (below-⊕ˡ _ _ _ _ _ _ _ _ _ _ (plain h)))
    (under_in (reads-⊖ reads_self reads_self) (reads-⊖ reads_self reads_self) (below-⊖ʳ _ _ _ _ _ _ _ _ _ _ (plain k)))

pub under-· : {n : ℕ} {x y : Fraction} (k : ℕ) → Under n x y → Under (n * k) (x · k) (y · k)
under-· k h = under_in (reads-· k reads_self) (reads-· k reads_self) (omega (arith, mul-le-mul_right k (plain h)))

below-÷ : (n k g l b g' l' b' : ℕ) → Below (n * k) g l b g' l' b' → Below n g l (b * k) g' l' (b' * k)
below-÷ n k g l b g' l' b' h = omega (arith, mul-le-mul_right k h)

pub under-÷ : {n : ℕ} {x y : Fraction} (k : ℕ) → Under (n * max 1 k) x y → Under n (x ÷ k) (y ÷ k)
under-÷ {n} k h = under_in (reads-÷ k reads_self) (reads-÷ k reads_self) (below-÷ n (max 1 k) _ _ _ _ _ _ (plain h))

pub under_after : {n : ℕ} {x y z : Fraction} → Under 0 x y → Under n y z → Under n x z
under_after h k = under_more (omega arith) (under_trans h k)

pub under_then : {n : ℕ} {x y z : Fraction} → Under n x y → Under 0 y z → Under n x z
under_then h k = under_more (omega arith) (under_trans h k)

-- a fraction written in another way
pub under_same : {x y : Fraction} {g l b g' l' b' : ℕ} → Reads x g l b → Reads y g' l' b' → g * b' + l' * b ≡ g' * b + l * b' → Under 0 x y
under_same h h' e = under_in h h' (omega arith)

-- within 0 hundredths is at most
pub ≼-under : {x y : Fraction} → x ≼ y → Under 0 x y
≼-under h = under_in reads_self reads_self (omega (arith, ≼-out reads_self reads_self h))

pub under-≼ : {x y : Fraction} → Under 0 x y → x ≼ y
under-≼ h = ≼-in reads_self reads_self (omega (arith, plain h))

-- ---- the lesser and the greater of two
at_most_no : (x y : Fraction) → at_most x y ≡ false → Under 0 y x
unfolding at_most
at_most_no x y e = under_in reads_self reads_self (omega (arith, ints))

module _ {n : ℕ} {x y x' y' : Fraction} (h : Under n x x') (k : Under n y y') where
  lesser_by : (s t : Bool) → at_most x y ≡ s → at_most x' y' ≡ t → Under n (cond s x y) (cond t x' y')
  lesser_by true true e f = h
  lesser_by true false e f = under_after (≼-under (at_most_yes x y e)) k
  lesser_by false true e f = under_after (at_most_no x y e) h
  lesser_by false false e f = k

  greater_by : (s t : Bool) → at_most x y ≡ s → at_most x' y' ≡ t → Under n (cond s y x) (cond t y' x')
  greater_by true true e f = k
  greater_by true false e f = under_then k (at_most_no x' y' f)
  greater_by false true e f = under_then h (≼-under (at_most_yes x' y' f))
  greater_by false false e f = h

  pub under_lesser : Under n (lesser x y) (lesser x' y')
  under_lesser = lesser_by (at_most x y) (at_most x' y') refl refl

  pub under_greater : Under n (greater x y) (greater x' y')
  under_greater = greater_by (at_most x y) (at_most x' y') refl refl

-- less than 100 hundredths is less than 1
pub under_strict : {n : ℕ} {x y : Fraction} → n < 100 → Under n x y → x ≺ y ⊕ whole (pos 1)
under_strict {n} {x} {y} lt h =
    ≺-in reads_self (reads-⊕ reads_self (reads_whole (pos 1))) (lt_of_mul-lt-mul_right 100 (omega (arith, plain h, mul-lt-mul_of_pos_right lt (mul-pos x.solid y.solid))))

-- ---- at most n hundredths apart
pub record Near (n : ℕ) (x y : Fraction) : Type 0 where
  pub over : Under n x y
  pub under : Under n y x

pub near_refl : {x : Fraction} → Near 0 x x
near_refl = record { over = under_refl; under = under_refl }

pub near_more : {n m : ℕ} {x y : Fraction} → n ≤ m → Near n x y → Near m x y
near_more le h = record { over = under_more le h.over; under = under_more le h.under }

pub near_trans : {n m : ℕ} {x y z : Fraction} → Near n x y → Near m y z → Near (n + m) x z
near_trans {n} {m} h k = record { over = under_trans h.over k.over; under = under_more (omega arith) (under_trans k.under h.under) }

pub near-⊕ : {n m : ℕ} {x y z w : Fraction} → Near n x y → Near m z w → Near (n + m) (x ⊕ z) (y ⊕ w)
near-⊕ h k = record { over = under-⊕ h.over k.over; under = under-⊕ h.under k.under }

pub near-⊖ : {n m : ℕ} {x y z w : Fraction} → Near n x y → Near m z w → Near (n + m) (x ⊖ z) (y ⊖ w)
near-⊖ h k = record { over = under-⊖ h.over k.under; under = under-⊖ h.under k.over }

pub near-· : {n : ℕ} {x y : Fraction} (k : ℕ) → Near n x y → Near (n * k) (x · k) (y · k)
near-· k h = record { over = under-· k h.over; under = under-· k h.under }

pub near-÷ : {n m : ℕ} {x y : Fraction} (k : ℕ) → m ≤ n * k → Near m x y → Near n (x ÷ k) (y ÷ k)
near-÷ {n} {m} k le h = let le' : m ≤ n * max 1 k = omega (arith, mul-le-mul_left {m = k} {n = max 1 k} n (omega arith)) in
    record { over = under-÷ k (under_more le' h.over); under = under-÷ k (under_more le' h.under) }

pub near_lesser : {n : ℕ} {x y x' y' : Fraction} → Near n x x' → Near n y y' → Near n (lesser x y) (lesser x' y')
near_lesser h k = record { over = under_lesser h.over k.over; under = under_lesser h.under k.under }

pub near_greater : {n : ℕ} {x y x' y' : Fraction} → Near n x x' → Near n y y' → Near n (greater x y) (greater x' y')
near_greater h k = record { over = under_greater h.over k.over; under = under_greater h.under k.under }

-- ---- within 0 hundredths is equal
pub near_equal : {x y : Fraction} → Near 0 x y → Equal x y
near_equal h = (under-≼ h.over, under-≼ h.under)

pub equal_near : {x y : Fraction} → Equal x y → Near 0 x y
equal_near h = record { over = ≼-under h.0; under = ≼-under h.1 }

-- a fraction written in another way
pub near_same : {x y : Fraction} {g l b g' l' b' : ℕ} → Reads x g l b → Reads y g' l' b' → g * b' + l' * b ≡ g' * b + l * b' → Near 0 x y
near_same h h' e = record { over = under_same h h' e; under = under_same h' h (omega arith) }
