-- The loop that looks for the value of a straight line at a time.
use Rattle.std.proofs.Common.{◌≡◌, ℕ, ◌+◌, ◌<◌, ◌≤◌, cond, ltb, List, [], ◌∷◌, length, drop, ℤ, pos, sym, refl, ap, ◌∙◌, arith}
use Rattle.std.proofs.lemmas.List.{at_drop_all}
use Rattle.exact.specs.Fractions.{whole}
use Rattle.exact.specs.Rounding.{half_up}
use Rattle.exact.specs.Lines.{straight, line_from, line}
use Rattle.exact.specs.Limits.{Within}
use Rattle.exact.proofs.Limits.{within_in}
use Rattle.exact.proofs.Tests.{pick, skip}
use Rattle.exact.proofs.Wholes.{half_up_of_whole}
use Rattle.delivery.specs.Limits.{BeginsBy}

-- after i entries the loop stands at v0 at t0
pub record Reached {X : Type 0} (A : ℕ) (time : X → ℕ) (z : X → ℤ) (xs : List X) (u i t0 : ℕ) (v0 : ℤ) : Type 0 where
  pub same : line_from time (λ a. whole (z a)) t0 (whole v0) (drop i xs) u ≡ line time (λ a. whole (z a)) xs u
  pub past : t0 ≤ u
  pub within : Within A v0

module _ {X : Type 0} {A : ℕ} (time : X → ℕ) (z : X → ℤ) (xs : List X) (u : ℕ) where
  pub start : BeginsBy time u xs → Reached A time z xs u 0 0 (pos 0)
  start h = record { same = first xs h; past = omega arith; within = within_in (omega arith) (omega arith) }
    where
      first : (ks : List X) → BeginsBy time u ks → line_from time (λ a. whole (z a)) 0 (whole (pos 0)) ks u ≡ line time (λ a. whole (z a)) ks u
      first [] h = refl
      first (a ∷ ks) h = skip u (time a) _ _ h

  module _ (i t0 : ℕ) (v0 : ℤ) (h : Reached A time z xs u i t0 v0) where
    -- the next entry is x, and v its value
    module _ (x : X) (opens : drop i xs ≡ x ∷ drop (i + 1) xs) (v : ℤ) (e : v ≡ z x) where
      next : cond (ltb u (time x)) (straight t0 (whole v0) (time x) (whole (z x)) u) (line_from time (λ a. whole (z a)) (time x) (whole (z x)) (drop (i + 1) xs) u) ≡ line time (λ a. whole (z a)) xs u
      next = sym (ap (λ (ks : List X). line_from time (λ a. whole (z a)) t0 (whole v0) ks u) opens) ∙ h.same

      pub turn : time x ≤ u → Within A v → Reached A time z xs u (i + 1) (time x) v
      turn le w = record { same = rw e (sym (skip u (time x) _ _ le) ∙ next); past = le; within = w }

      pub found : u < time x → straight t0 (whole v0) (time x) (whole v) u ≡ line time (λ a. whole (z a)) xs u
      found less = rw e (sym (pick u (time x) _ _ less) ∙ next)

    pub level : length xs ≤ i → v0 ≡ half_up (line time (λ a. whole (z a)) xs u)
    level le = sym (half_up_of_whole v0) ∙ ap half_up (sym (at_drop_all (λ (ks : List X). line_from time (λ a. whole (z a)) t0 (whole v0) ks u) xs i le) ∙ h.same)
