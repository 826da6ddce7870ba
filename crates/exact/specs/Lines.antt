-- The straight line between two values, and through the entries of a list that carry a time and a value.
use Rattle.std.specs.Prelude.{ℕ, ◌-◌, ◌<◌, cond, List, [], ◌∷◌, ℤ, pos, nat_lt}
use Rattle.exact.specs.Fractions.{Fraction, whole, ◌⊕◌, ◌⊖◌, ◌·◌, ◌÷◌, ◌≼◌}

-- the straight line from v at t to v' at t', at the time u
abbrev pub straight : ℕ → Fraction → ℕ → Fraction → ℕ → Fraction
straight t v t' v' u = v ⊕ (v' ⊖ v) · (u - t) ÷ (t' - t)

-- the line goes through both its ends
pub record ThroughEnds : Type 0 where
  pub start : (t s : ℕ) (v w : ℤ) → t < s → (straight t (whole v) s (whole w) t ≼ whole v) × (whole v ≼ straight t (whole v) s (whole w) t)
  pub end : (t s : ℕ) (v w : ℤ) → t < s → (straight t (whole v) s (whole w) s ≼ whole w) × (whole w ≼ straight t (whole v) s (whole w) s)

-- the straight line from v at t through the entries, at the time u; level after the last
abbrev pub line_from : {A : Type 0} → (A → ℕ) → (A → Fraction) → ℕ → Fraction → List A → ℕ → Fraction
line_from time value t v [] u = v
line_from time value t v (a ∷ rest) u = cond (nat_lt u (time a)) (straight t v (time a) (value a) u) (line_from time value (time a) (value a) rest u)

-- the straight line between neighbouring entries, at the time u
abbrev pub line : {A : Type 0} → (A → ℕ) → (A → Fraction) → List A → ℕ → Fraction
line time value [] u = whole (pos 0)
line time value (a ∷ rest) u = line_from time value (time a) (value a) rest u
