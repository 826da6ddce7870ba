-- The first whole number of which something holds.
use Rattle.std.specs.Prelude.{ℕ, ◌<◌, Option, MatchOption}

-- P holds at t and at no smaller whole number
pub record First (P : ℕ → Type 0) (t : ℕ) : Type 0 where
  pub holds : P t
  pub earlier : (u : ℕ) → u < t → P u → ⊥

-- the first is answered, or none exactly where P holds of no whole number
abbrev pub FirstOrNone : (ℕ → Type 0) → Option ℕ → Type 0
FirstOrNone P o = MatchOption o ((u : ℕ) → P u → ⊥) (λ t. First P t)
