-- Entries whose times strictly rise: what holds of the first time, or of the last, holds of all.
use Rattle.std.proofs.Common.{◌≡◌, ℕ, zero, suc, ◌+◌, ◌-◌, ◌<◌, ◌≤◌, List, length, get_or, Some, sym, subst, arith}
use Rattle.std.specs.List.{slice_get}
use Rattle.std.proofs.lemmas.Option.{slice_get_within, get_or_from_slice_get}
use Rattle.std.specs.List.{AllByRecursion}
use Rattle.std.proofs.ByRecursion.{All-from_get_or, All-get_or}

-- an entry that is found at a place stands there
pub found_at : {X : Type 0} (xs : List X) (i : ℕ) (x d : X) → Some x ≡ slice_get xs i → (i < length xs) × (get_or xs i d ≡ x)
found_at xs i x d e = (slice_get_within xs i x (sym e), get_or_from_slice_get xs i x d (sym e))

module _ {X : Type 0} (time : X → ℕ) (d : X) (xs : List X) (rising : (k : ℕ) → k + 1 < length xs → time (get_or xs k d) < time (get_or xs (k + 1) d)) where
  pub climbs : (i n : ℕ) → i + n < length xs → time (get_or xs i d) ≤ time (get_or xs (i + n) d)
  climbs i zero lt = let e : i ≡ i + 0 = omega arith in subst (λ (k : ℕ). time (get_or xs i d) ≤ time (get_or xs k d)) e (omega arith)
  climbs i (suc n) lt =
      let e : i + n + 1 ≡ i + suc n = omega arith in
      subst (λ (k : ℕ). time (get_or xs i d) ≤ time (get_or xs k d)) e (omega (arith, climbs i n (omega arith), rising (i + n) (omega arith)))

  -- from the first upwards
  pub all_up : (P : ℕ → Type 0) → ((m n : ℕ) → m ≤ n → P m → P n) → P (time (get_or xs 0 d)) → AllByRecursion (λ x. P (time x)) xs
  all_up P up h = All-from_get_or (λ x. P (time x)) xs d (λ k lt. up _ _ (subst (λ (j : ℕ). time (get_or xs 0 d) ≤ time (get_or xs j d)) (omega arith) (climbs 0 k (omega arith))) h)

  -- from the last downwards
  pub all_down : (P : ℕ → Type 0) → ((m n : ℕ) → m ≤ n → P n → P m) → P (time (get_or xs (length xs - 1) d)) → AllByRecursion (λ x. P (time x)) xs
  all_down P down h =
      All-from_get_or (λ x. P (time x)) xs d
      (λ k lt. down _ _ (subst (λ (j : ℕ). time (get_or xs k d) ≤ time (get_or xs j d)) (omega arith) (climbs k (length xs - 1 - k) (omega arith))) h)

  module _ (some : 0 < length xs) where
    pub at_first : (P : ℕ → Type 0) → AllByRecursion (λ x. P (time x)) xs → P (time (get_or xs 0 d))
    at_first P h = All-get_or (λ x. P (time x)) xs 0 d some h

    pub at_last : (P : ℕ → Type 0) → AllByRecursion (λ x. P (time x)) xs → P (time (get_or xs (length xs - 1) d))
    at_last P h = All-get_or (λ x. P (time x)) xs (length xs - 1) d (omega arith) h
