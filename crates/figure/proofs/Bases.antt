-- The samples that count for the base, and the mean of their pushes.
use Rattle.std.proofs.Common.{◌≡◌, ℕ, zero, suc, ◌<◌, Bool, true, false, cond, List, [], ◌∷◌, ◌++◌, length, filter, ℤ, pos, ◌+ℤ◌, ◌*ℤ◌, sym, refl, ap, subst, arith}
use borrow.Author.Differences.{ints}
use Rattle.std.specs.List.{All, Contains}
use Rattle.exact.specs.Averages.{sum_of, mean}
use Rattle.exact.specs.Fractions.{Fraction, whole, ◌⊕◌, ◌·◌, ◌÷◌}
use Rattle.exact.specs.Rounding.{half_up}
use Rattle.exact.proofs.Averages.{mean_level}
use Rattle.exact.proofs.Naturals.{reads_self, reads_whole, reads_whole_times, reads-⊕, reads-·}
use Rattle.exact.proofs.Near.{Near, near_refl, near_trans, near-⊕, near-÷, near_same, near_equal, equal_near}
use Rattle.exact.proofs.Order.{reads_by}
use Rattle.exact.proofs.Rounding.{half_up_value, half_up_whole}
use Rattle.exact.proofs.Wholes.{half_up_of_whole}
use Rattle.timeline.specs.declared.target.Target.{Target}
use Rattle.response.specs.declared.base.BaseWindow.{BaseWindow}
use Rattle.figure.specs.declared.point.Point.{Point}
use Rattle.figure.specs.Steps.{Rounding, Case, to_half_up, unrounded, hundredths, power, is_base, trajectory, push_with, base_push, base}
use Rattle.figure.specs.StepLaws.{InBase, counted, with_points, pushed_by, CountedLaws, MovesBy, number_with, OnRising, BaseLaws, IsMean, BaseIsMean}
use Rattle.figure.proofs.Meanings.{base_is_signed}
use Rattle.figure.proofs.Rising.{rises_kept}
use Rattle.figure.proofs.Targets.{rounded_equal, on_rising}

-- ---- what a filter keeps
module _ {X : Type 0} (test : X → Bool) where
  more : (x y : X) (xs : List X) → Contains xs y → Contains (x ∷ xs) y
  more x y xs (k, less, is) = (suc k, omega arith, is)

  kept_from : (x y : X) (xs ks : List X) (b : Bool) → test x ≡ b → (Contains ks y → Contains xs y × (test y ≡ true)) → Contains (cond b (x ∷ ks) ks) y → Contains (x ∷ xs) y × (test y ≡ true)
  kept_from x y xs ks true e rest (zero, less, is) = ((zero, omega arith, is), subst (λ (q : X). test q ≡ true) is e)
  kept_from x y xs ks true e rest (suc k, less, is) = let h = rest (k, omega arith, is) in (more x y xs h.0, h.1)
  kept_from x y xs ks false e rest h = let k = rest h in (more x y xs k.0, k.1)

  kept_in : (xs : List X) (y : X) → Contains (filter test xs) y → Contains xs y × (test y ≡ true)
  kept_in [] y (k, less, is) = absurd (omega arith)
  kept_in (x ∷ xs) y h = kept_from x y xs (filter test xs) (test x) refl (λ k. kept_in xs y k) h

  kept_more : (x y : X) (xs : List X) (b : Bool) → Contains xs y → Contains (cond b (x ∷ xs) xs) y
  kept_more x y xs true h = more x y xs h
  kept_more x y xs false h = h

  kept_here : (x y : X) (xs : List X) (b : Bool) → b ≡ true → x ≡ y → Contains (cond b (x ∷ xs) xs) y
  kept_here x y xs true e same = (zero, omega arith, same)
  kept_here x y xs false e same = cc

  keeps : (xs : List X) (y : X) → Contains xs y → test y ≡ true → Contains (filter test xs) y
  keeps [] y (k, less, is) passes = absurd (omega arith)
  keeps (x ∷ xs) y (zero, less, is) passes = kept_here x y (filter test xs) (test x) (subst (λ (q : X). test q ≡ true) (sym is) passes) is
  keeps (x ∷ xs) y (suc k, less, is) passes = kept_more x y (filter test xs) (test x) (keeps xs y (k, omega arith, is) passes)

  -- one entry in the place of another
  module _ (p q : X) where
    both_out : test p ≡ false → test q ≡ false → (earlier later : List X) → filter test (earlier ++ q ∷ later) ≡ filter test (earlier ++ p ∷ later)
    both_out fails fails' [] later = rw (fails, fails') refl
    both_out fails fails' (a ∷ earlier) later = ap (λ (ks : List X). cond (test a) (a ∷ ks) ks) (both_out fails fails' earlier later)

    length_step : (a : X) (xs ys : List X) (b : Bool) → length xs ≡ length ys → length (cond b (a ∷ xs) xs) ≡ length (cond b (a ∷ ys) ys)
    length_step a xs ys true e = omega arith
    length_step a xs ys false e = e

    both_in : test p ≡ true → test q ≡ true → (earlier later : List X) → length (filter test (earlier ++ q ∷ later)) ≡ length (filter test (earlier ++ p ∷ later))
    both_in passes passes' [] later = rw (passes, passes') (omega arith)
    both_in passes passes' (a ∷ earlier) later = length_step a _ _ (test a) (both_in passes passes' earlier later)

    some_in : test p ≡ true → (earlier later : List X) → 0 < length (filter test (earlier ++ p ∷ later))
    some_in passes [] later = rw passes (omega arith)
    some_in passes (a ∷ earlier) later = step (test a) (some_in passes earlier later)
      where
        step : (b : Bool) → 0 < length (filter test (earlier ++ p ∷ later)) → 0 < length (cond b (a ∷ filter test (earlier ++ p ∷ later)) (filter test (earlier ++ p ∷ later)))
        step true some = omega arith
        step false some = some

abbrev counts : ℕ → BaseWindow → Point → Bool
counts T base p = is_base T base p.time

pub counted_laws : (T : ℕ) (base : BaseWindow) (ps : List Point) → CountedLaws T base ps
counted_laws T base ps = record {
  no_others = λ p h. let k = kept_in (counts T base) ps p h in (k.0, (base_is_signed T base p.time).0 k.1);
  all_inside = λ p h inside. keeps (counts T base) ps p h ((base_is_signed T base p.time).1 inside);
  each_once = rises_kept (counts T base) ps;
}

-- ---- sums, one of whose terms is y more
swap : (x s y : Fraction) → Near 0 ((x ⊕ y) ⊕ s) ((x ⊕ s) ⊕ y)
swap x s y = near_same (reads-⊕ (reads-⊕ reads_self reads_self) reads_self) (reads-⊕ (reads-⊕ reads_self reads_self) reads_self) (omega arith)

regroup : (x s y : Fraction) → Near 0 (x ⊕ (s ⊕ y)) ((x ⊕ s) ⊕ y)
regroup x s y = near_same (reads-⊕ reads_self (reads-⊕ reads_self reads_self)) (reads-⊕ (reads-⊕ reads_self reads_self) reads_self) (omega arith)

module _ {X : Type 0} (f : X → Fraction) (test : X → Bool) (p q : X) (y : Fraction) (passes : test p ≡ true) (passes' : test q ≡ true) (near : Near 0 (f q) (f p ⊕ y)) where
  sum_step : (a : X) (xs ys : List X) (b : Bool) → Near 0 (sum_of f xs) (sum_of f ys ⊕ y) → Near 0 (sum_of f (cond b (a ∷ xs) xs)) (sum_of f (cond b (a ∷ ys) ys) ⊕ y)
  sum_step a xs ys true h = near_trans {n = 0} {m = 0} (near-⊕ {n = 0} {m = 0} near_refl h) (regroup (f a) (sum_of f ys) y)
  sum_step a xs ys false h = h

  sum_moved : (earlier later : List X) → Near 0 (sum_of f (filter test (earlier ++ q ∷ later))) (sum_of f (filter test (earlier ++ p ∷ later)) ⊕ y)
  sum_moved [] later = rw (passes, passes') (near_trans {n = 0} {m = 0} (near-⊕ {n = 0} {m = 0} near near_refl) (swap (f p) (sum_of f (filter test later)) y))
  sum_moved (a ∷ earlier) later = sum_step a _ _ (test a) (sum_moved earlier later)

-- n times x, shared by n
share : (s y x : Fraction) (n : ℕ) → 0 < n → Near 0 y (x · n) → Near 0 ((s ⊕ y) ÷ n) (s ÷ n ⊕ x)
share s y x n some is =
    near_trans {n = 0} {m = 0} (near-÷ {n = 0} n (omega arith) (near-⊕ {n = 0} {m = 0} (near_refl {x = s}) is))
    (near_same (reads_by n some (reads-⊕ reads_self (reads-· n reads_self))) (reads-⊕ (reads_by n some reads_self) reads_self) (omega arith))

-- ---- hundredths of sums and of products
hundredths_sum : (v w : ℤ) → Near 0 (hundredths (v +ℤ w)) (hundredths v ⊕ hundredths w)
hundredths_sum v w = near_same (reads_whole_times (v +ℤ w) 100) (reads-⊕ (reads_whole_times v 100) (reads_whole_times w 100)) (omega (arith, ints))

hundredths_times : (z : ℤ) (n : ℕ) → Near 0 (hundredths (z *ℤ pos n)) (hundredths z · n)
hundredths_times z n = near_same (reads_whole_times (z *ℤ pos n) 100) (reads-· n (reads_whole_times z 100)) (omega (arith, ints))

-- ---- the mean of entries that have the same value
module _ {X : Type 0} (f : X → Fraction) (v : Fraction) where
  sum_all : (xs : List X) → All (λ x. Near 0 (f x) v) xs → Near 0 (sum_of f xs) (sum_of (λ _. v) xs)
  sum_all [] h = near_refl
  sum_all (x ∷ xs) h = near-⊕ {n = 0} {m = 0} (h 0 x (omega arith)) (sum_all xs (λ k d less. h (suc k) d (omega arith)))

  mean_all : (xs : List X) → 0 < length xs → All (λ x. Near 0 (f x) v) xs → Near 0 (mean f xs) v
  mean_all xs some h = near_trans {n = 0} {m = 0} (near-÷ {n = 0} (length xs) (omega arith) (sum_all xs h)) (equal_near (mean_level v xs some))

-- ---- the push of a base sample that is z watts more
push_moved : (r : Rounding) (c : Case) (gs : List Target) (p : Point) (z : ℤ) → Near 0 (push_with r c gs (pushed_by z p)) (push_with r c gs p ⊕ hundredths z)
push_moved r c [] p z = hundredths_sum p.push z
push_moved r c (g ∷ gs) p z = near_trans {n = 0} {m = 0} (near-⊕ {n = 0} {m = 0} (hundredths_sum p.push z) near_refl) (swap (power p) _ (hundredths z))

not_in : (T : ℕ) (base : BaseWindow) (p : Point) → (InBase T base p → ⊥) → counts T base p ≡ false
not_in T base p out = by (counts T base p) refl
  where
    by : (b : Bool) → counts T base p ≡ b → b ≡ false
    by true e = absurd (out ((base_is_signed T base p.time).0 e))
    by false e = refl

-- ---- a rounding that moves with whole numbers and leaves what it has rounded
record Steady (r : Rounding) : Type 0 where
  moves : (x y : Fraction) (z : ℤ) → Near 0 y (x ⊕ whole z) → Near 0 (r y) (r x ⊕ whole z)
  same : (x y : Fraction) → Near 0 x y → Near 0 (r x) (r y)
  wholes : (z : ℤ) → Near 0 (r (whole z)) (whole z)
  again : (x : Fraction) → Near 0 (r (r x)) (r x)

module _ (r : Rounding) (steady : Steady r) where
  same_shares : (c : Case) (earlier later : List Point) (p : Point) (z : ℤ) → InBase c.disturbance c.base p → MovesBy r c earlier p (pushed_by (z *ℤ pos (number_with c earlier p later)) p) later (hundredths z)
  same_shares c earlier later p z inside =
      let test = counts c.disturbance c.base in
      let f = base_push r c in
      let n = number_with c earlier p later in
      let passes = (base_is_signed c.disturbance c.base p.time).1 inside in
      let q = pushed_by (z *ℤ pos n) p in
      let some : 0 < n = some_in test p q passes earlier later in
      let sum = sum_moved f test p q (hundredths (z *ℤ pos n)) passes passes (push_moved r c c.targets p (z *ℤ pos n)) earlier later in
      let counts : length (filter test (earlier ++ q ∷ later)) ≡ n = both_in test p q passes passes earlier later in
      let mean_moved : Near 0 (sum_of f (filter test (earlier ++ q ∷ later)) ÷ n) (sum_of f (filter test (earlier ++ p ∷ later)) ÷ n ⊕ hundredths z) =
      near_trans {n = 0} {m = 0} (near-÷ {n = 0} n (omega arith) sum) (share _ _ (hundredths z) n some (hundredths_times z n)) in
      near_equal (steady.moves _ _ (z *ℤ pos 100) (subst (λ (m : ℕ). Near 0 (sum_of f (filter test (earlier ++ q ∷ later)) ÷ m) (sum_of f (filter test (earlier ++ p ∷ later)) ÷ n ⊕ hundredths z)) (sym counts) mean_moved))

  others_out : (c : Case) (earlier later : List Point) (p : Point) (z : ℤ) → (InBase c.disturbance c.base p → ⊥) → base r (with_points c (earlier ++ pushed_by z p ∷ later)) ≡ base r (with_points c (earlier ++ p ∷ later))
  others_out c earlier later p z out =
      let fails = not_in c.disturbance c.base p out in
      ap (λ (ks : List Point). r (mean (base_push r c) ks)) (both_out (counts c.disturbance c.base) p (pushed_by z p) fails fails earlier later)

  level_push : (c : Case) (gs : List Target) (p : Point) (w : ℤ) → gs ≡ [] → p.push ≡ w → Near 0 (push_with r c gs p) (hundredths w)
  level_push c [] p w none e = rw e near_refl
  level_push c (g ∷ gs) p w none e = cc

  level : (c : Case) (w : ℤ) → c.targets ≡ [] → 0 < length (counted c) → All (λ p. p.push ≡ w) (counted c) → Near 0 (base r c) (hundredths w)
  level c w none some each =
      let all = mean_all (base_push r c) (hundredths w) (counted c) some (λ k d less. level_push c c.targets _ w none (each k d less)) in
      near_trans {n = 0} {m = 0} (steady.same _ _ all) (steady.wholes (w *ℤ pos 100))

  follows_targets : (c : Case) → 0 < length c.targets → 0 < length (counted c) → All (OnRising r c) (counted c) → Near 0 (base r c) (trajectory r c c.disturbance)
  follows_targets c with_targets some each =
      let all = mean_all (base_push r c) (trajectory r c c.disturbance) (counted c) some
      (λ k d less. let h = each k d less in on_rising r c _ with_targets h.0 h.1) in
      near_trans {n = 0} {m = 0} (steady.same _ _ all) (steady.again _)

  base_laws_of : BaseLaws r
  base_laws_of = record {
    same_shares = same_shares;
    others_out = others_out;
    level = λ c w none some each. near_equal (level c w none some each);
    follows_targets = λ c with_targets some each. near_equal (follows_targets c with_targets some each);
    not_shifted = λ xs d a recovery recovery' shift shift'. refl;
  }

-- ---- half-up and none
whole_sum : (v w : ℤ) → Near 0 (whole (v +ℤ w)) (whole v ⊕ whole w)
whole_sum v w = near_same (reads_whole (v +ℤ w)) (reads-⊕ (reads_whole v) (reads_whole w)) (omega (arith, ints))

near_half_up : (x y : Fraction) → Near 0 x y → half_up x ≡ half_up y
near_half_up x y h = let e = near_equal h in half_up_value x y e.0 e.1

half_up_steady : Steady to_half_up
half_up_steady = record {
  moves = λ x y z h. rw (near_half_up y (x ⊕ whole z) h, half_up_whole x z) (whole_sum (half_up x) z);
  same = λ x y h. rw (near_half_up x y h) near_refl;
  wholes = λ z. rw (half_up_of_whole z) near_refl;
  again = λ x. rw (half_up_of_whole (half_up x)) near_refl;
}

unrounded_steady : Steady unrounded
unrounded_steady = record { moves = λ x y z h. h; same = λ x y h. h; wholes = λ z. near_refl; again = λ x. near_refl }

pub base_laws : BaseLaws to_half_up
base_laws = base_laws_of to_half_up half_up_steady

pub exact_base_laws : BaseLaws unrounded
exact_base_laws = base_laws_of unrounded unrounded_steady

-- ---- the mean
mean_is : {X : Type 0} (f : X → Fraction) (xs : List X) → 0 < length xs → Near 0 (mean f xs · length xs) (sum_of f xs)
mean_is f xs some = near_same (reads-· (length xs) (reads_by (length xs) some reads_self)) reads_self (omega arith)

is_mean : (f : Point → Fraction) (ps : List Point) (x : Fraction) → 0 < length ps → IsMean f ps x → Near 0 x (mean f ps)
is_mean f ps x some h =
    near_trans {n = 0} {m = 0} (near_same reads_self (reads_by (length ps) some (reads-· (length ps) reads_self)) (omega arith)) (near-÷ {n = 0} (length ps) (omega arith) (equal_near h))

pub base_is_mean : (c : Case) → BaseIsMean c
base_is_mean c = record {
  exact = λ some. near_equal (mean_is (base_push unrounded c) (counted c) some);
  rounded_once = λ x some h. rounded_equal x _ (is_mean (base_push to_half_up c) (counted c) x some h);
}
