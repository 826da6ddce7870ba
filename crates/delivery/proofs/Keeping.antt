-- What a filter keeps of a list that a function has gone over.
use Rattle.std.proofs.Common.{◌≡◌, ℕ, zero, suc, ◌<◌, Bool, true, false, cond, ◌||◌, List, [], ◌∷◌, length, get_or, map, filter, Decides, MatchBool, sym, refl, subst, arith}
use Rattle.std.specs.List.{ContainsAt, AllByRecursion, AllWithin, HoldsAt, list_any}
use Rattle.std.proofs.ByRecursion.{All-from_get_or, All-get_or, all_kept_by, kept_by_passes}
use Rattle.std.proofs.Math.Bool.{not}
use Rattle.std.proofs.lemmas.Bool.{not-true, not_from_false}
use Rattle.std.proofs.lemmas.List.{length-map, get_or-map}
use Rattle.figure.specs.declared.point.Point.{Point}
use Rattle.figure.specs.Defects.{Missed, OneMissed}
use Rattle.timeline.specs.declared.target.Target.{Target}

-- ---- nothing is kept exactly where nothing passes
module _ {A X : Type 0} (f : A → X) (p : X → Bool) where
  none_kept : (xs : List A) → list_any (λ a. p (f a)) xs ≡ false → filter p (map f xs) ≡ []
  none_kept [] e = refl
  none_kept (a ∷ xs) e =
      elim (p (f a)) as (λ b. (b || list_any (λ a. p (f a)) xs) ≡ false → cond b (f a ∷ filter p (map f xs)) (filter p (map f xs)) ≡ []) [ true ↦ λ h. cc | false ↦ λ h. none_kept xs h ] e

  none_pass : (xs : List A) → filter p (map f xs) ≡ [] → list_any (λ a. p (f a)) xs ≡ false
  none_pass [] e = refl
  none_pass (a ∷ xs) e =
      elim (p (f a)) as (λ b. cond b (f a ∷ filter p (map f xs)) (filter p (map f xs)) ≡ [] → (b || list_any (λ a. p (f a)) xs) ≡ false) [ true ↦ λ h. cc | false ↦ λ h. none_pass xs h ] e

  pub keeps_none : (xs : List A) (r : Bool) → r ≡ list_any (λ a. p (f a)) xs → Decides (not r) (filter p (map f xs) ≡ [])
  keeps_none xs r e = (λ no. none_kept xs (let h = not-true r no in cc), λ none. not_from_false r (let h = none_pass xs none in cc))

-- ---- what passes is kept
module _ {X : Type 0} (p : X → Bool) where
  has_more : (x y : X) (xs : List X) (b : Bool) → ContainsAt xs y → ContainsAt (cond b (x ∷ xs) xs) y
  has_more x y xs true h = (suc h.0, omega (arith, h.1), λ d. h.2 d)
  has_more x y xs false h = h

  has_here : (x : X) (xs : List X) (b : Bool) → b ≡ true → ContainsAt (cond b (x ∷ xs) xs) x
  has_here x xs true e = (zero, omega arith, λ d. refl)
  has_here x xs false e = cc

  keeps : (xs : List X) (k : ℕ) (d : X) → k < length xs → p (get_or xs k d) ≡ true → ContainsAt (filter p xs) (get_or xs k d)
  keeps [] k d lt e = absurd (omega arith)
  keeps (x ∷ xs) zero d lt e = has_here x (filter p xs) (p x) e
  keeps (x ∷ xs) (suc k) d lt e = has_more x (get_or xs k d) (filter p xs) (p x) (keeps xs k d (omega arith) e)

module _ (gs : List Target) (p : Point → Bool) where
  abbrev pub Misses : Point → Type 0
  Misses x = (p x ≡ true) × ((0 < length gs) × Missed gs x.time)

  one_missed : (points : List Point) (d : Point) (k : ℕ) → k < length points → Misses (get_or points k d) → (0 < length gs) × OneMissed gs (filter p points)
  one_missed points d k lt h = let has = keeps p points k d lt h.0 in
      (h.1.0, (has.0, has.1, λ q. subst (λ (x : Point). Missed gs x.time) (sym (has.2 q)) h.1.1))

  none_missed : (points : List Point) (d : Point) → ((k : ℕ) → k < length points → Misses (get_or points k d) → ⊥) → (0 < length gs) × OneMissed gs (filter p points) → ⊥
  none_missed points d h (some, one) =
      let no : AllByRecursion (λ x. Misses x → ⊥) (filter p points) = all_kept_by p _ points (All-from_get_or _ points d h) in
      All-get_or (λ (x : Point). Misses x → ⊥) (filter p points) one.0 d one.1 no (All-get_or (λ (x : Point). p x ≡ true) (filter p points) one.0 d one.1 (kept_by_passes p points), (some, one.2 d))

  -- what a search of the list answers, before f has gone over it
  pub misses_decided : {A : Type 0} (f : A → Point) (a : A) (q : Point) (xs : List A) (r : Bool) → MatchBool r ((k : ℕ) × (k < length xs) × HoldsAt (λ x. Misses (f x)) xs k) (AllWithin (λ x. Misses (f x) → ⊥) xs 0 (length xs)) → Decides r ((0 < length gs) × OneMissed gs (filter p (map f xs)))
  misses_decided f a q xs true h = (
    λ _. one_missed (map f xs) q h.0 (omega (arith, h.1, length-map xs f)) (subst Misses (sym (get_or-map f xs h.0 a q h.1)) (h.2 a)),
    λ _. refl,
  )
  misses_decided f a q xs false h = (
    λ e. cc,
    λ one. absurd (none_missed (map f xs) q (λ k lt. let there : k < length xs = omega (arith, length-map xs f) in subst (λ (x : Point). Misses x → ⊥) (sym (get_or-map f xs k a q there)) (h k a (omega arith) there)) one),
  )
