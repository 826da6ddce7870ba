-- A slice's windows of two are each sample with the next.
use Rattle.std.proofs.Common.{◌≡◌, ℕ, ◌+◌, ◌-◌, ◌<◌, ◌≤◌, ◌⊎◌, Bool, true, false, List, [], ◌∷◌, length, get_or, take, drop, Bor, Decides, MatchBool, sym, refl, ap, ◌∙◌, subst, inl, inr, arith}
use Rattle.std.specs.Iterator.{AlwaysYields}
use Rattle.std.specs.List.{zip, AllWithin, HoldsAt}
use Rattle.std.specs.Slice.Iter.{windows_size, windows_rest, windows_steps}
use Rattle.std.proofs.lemmas.Iterator.{YieldsList}
use Rattle.std.proofs.lemmas.List.{get_or-drop, length-drop}
use Rattle.std.proofs.lemmas.Slice.Zip.{get_or-zip, length-zip}
use Rattle.recording.specs.declared.sample.Sample.{Sample}
use Rattle.disturbance.specs.Trace.{at}
use Rattle.figure.specs.declared.span.Span.{Span}
use Rattle.figure.specs.Defects.{Shares, Gapped}
use Rattle.delivery.proofs.Reaching.{nothing}

-- the two samples of a window
abbrev pub two : Bor (List Sample) → Sample × Sample
two w = (at w.now 0, at w.now 1)

-- each sample with the next
abbrev pub pairs : List Sample → List (Sample × Sample)
pairs xs = zip xs (drop 1 xs)

yields : (xs : List Sample) (s : _) → windows_size s ≡ 2 → windows_rest s ≡ xs → AlwaysYields windows_steps two s (pairs xs)
yields [] s n e = λ w t p. let l = ap length e in omega (arith, p.1.0)
yields (a ∷ []) s n e = λ w t p. let l = ap length e in omega (arith, p.1.0)
yields (a ∷ b ∷ xs) s n e = (
  λ t p. let l = ap length e in omega (arith, p.1.0),
  λ w t p. let first : w.now ≡ take 2 (a ∷ b ∷ xs) = p.1.1 ∙ rw (n, e) refl in
      (ap (λ (l : List Sample). (at l 0, at l 1)) first, yields (b ∷ xs) t (p.0 ∙ n) (p.1.2 ∙ ap (drop 1) e)),
)

pub windows_are : {s : _} (xs : List Sample) → windows_size s ≡ 2 → windows_rest s ≡ xs → YieldsList windows_steps two s (pairs xs)
windows_are {s} xs n e = record { runs = yields xs s n e }

module _ (widest : ℕ) (first second : Span) where
  -- a gap that is too wide, in one of two windows
  abbrev pub Gap : Sample × Sample → Type 0
  Gap p = (widest < p.1.time - p.0.time) × (Shares p.0 p.1 first ⊎ Shares p.0 p.1 second)

  is_pair : (xs : List Sample) (k : ℕ) → k + 1 < length xs → get_or (pairs xs) k (nothing, nothing) ≡ (at xs k, at xs (k + 1))
  is_pair xs k lt =
      let next : at (drop 1 xs) k ≡ at xs (k + 1) = get_or-drop 1 xs k nothing ∙ ap (at xs) (omega arith) in
      get_or-zip xs (drop 1 xs) k (nothing, nothing) (omega arith) (omega (arith, length-drop 1 xs)) ∙ ap (λ (s : Sample). (at xs k, s)) next

  one_gapped : (xs : List Sample) (k : ℕ) → k + 1 < length xs → Gap (at xs k, at xs (k + 1)) → Gapped xs widest first ⊎ Gapped xs widest second
  one_gapped xs k lt h =
      let same : k ≡ k + 1 - 1 = omega arith in
      let g : Gap (at xs (k + 1 - 1), at xs (k + 1)) = subst (λ (j : ℕ). Gap (at xs j, at xs (k + 1))) same h in
      elim g.1 [
        | inl s ↦ inl (record { place = k + 1; later = omega arith; there = lt; shares = s; wide = g.0 })
        | inr s ↦ inr (record { place = k + 1; later = omega arith; there = lt; shares = s; wide = g.0 })
      ]

  pub gapped_decided : (xs : List Sample) (r : Bool) → MatchBool r ((k : ℕ) × (k < length (pairs xs)) × HoldsAt Gap (pairs xs) k) (AllWithin (λ p. Gap p → ⊥) (pairs xs) 0 (length (pairs xs))) → Decides r (Gapped xs widest first ⊎ Gapped xs widest second)
  gapped_decided xs true h =
      let there : h.0 + 1 < length xs = omega (arith, h.1, length-zip xs (drop 1 xs), length-drop 1 xs) in
      (λ _. one_gapped xs h.0 there (subst Gap (is_pair xs h.0 there) (h.2 (nothing, nothing))), λ _. refl)
  gapped_decided xs false h = (
    λ e. cc,
    λ g. absurd (elim g [
      | inl a ↦ none a.place a.later a.there (a.wide, inl a.shares)
      | inr b ↦ none b.place b.later b.there (b.wide, inr b.shares)
    ]),
  )
    where
      none : (i : ℕ) → 1 ≤ i → i < length xs → Gap (at xs (i - 1), at xs i) → ⊥
      none i later there gap =
          let same : i ≡ i - 1 + 1 = omega arith in
          let last : i - 1 + 1 < length xs = omega arith in
          h (i - 1) (nothing, nothing) (omega arith) (omega (arith, length-zip xs (drop 1 xs), length-drop 1 xs)) (subst Gap (sym (is_pair xs (i - 1) last)) (subst (λ (j : ℕ). Gap (at xs (i - 1), at xs j)) same gap))
