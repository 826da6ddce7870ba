-- There is at most one first, and it does not matter in which words it is said.
use Rattle.std.proofs.Common.{◌≡◌, ℕ, Some, None, Option, refl, ap, inl, inr}
use Rattle.std.proofs.lemmas.Bool.{cases_order}
use Rattle.exact.specs.First.{First, FirstOrNone}

pub first_unique : {P : ℕ → Type 0} {s t : ℕ} → First P s → First P t → s ≡ t
first_unique {P} {s} {t} f g =
    elim (cases_order s t) [
      | inl same ↦ same
      | inr other ↦ elim other [ inl less ↦ absurd (g.earlier s less f.holds) | inr more ↦ absurd (f.earlier t more g.holds) ]
    ]

pub first_as : {P Q : ℕ → Type 0} {t : ℕ} → ((u : ℕ) → P u → Q u) → ((u : ℕ) → Q u → P u) → First P t → First Q t
first_as to from f = record { holds = to _ f.holds; earlier = λ u less q. f.earlier u less (from u q) }

pub answer_unique : (P : ℕ → Type 0) (o p : Option ℕ) → FirstOrNone P o → FirstOrNone P p → o ≡ p
answer_unique P None None h k = refl
answer_unique P None (Some u) h k = absurd (h u k.holds)
answer_unique P (Some t) None h k = absurd (k t h.holds)
answer_unique P (Some t) (Some u) h k = ap Some (first_unique h k)

pub answer_as : (P Q : ℕ → Type 0) (o : Option ℕ) → ((u : ℕ) → P u → Q u) → ((u : ℕ) → Q u → P u) → FirstOrNone P o → FirstOrNone Q o
answer_as P Q None to from h = λ u q. h u (from u q)
answer_as P Q (Some t) to from h = first_as to from h
