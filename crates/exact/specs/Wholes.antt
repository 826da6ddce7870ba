-- Whole numbers in the place of fractions, as code holds them.
use Rattle.std.specs.Prelude.{◌≡◌, ℕ, ◌+◌, ◌-◌, ◌*◌, ◌<◌, List, [], ◌∷◌, ℤ, pos, ◌+ℤ◌, ◌*ℤ◌}
use borrow.Author.Differences.{up, down}
use Rattle.exact.specs.Fractions.{Fraction}

-- x is n over d, however it is written
pub record Is (x : Fraction) (n : ℤ) (d : ℕ) : Type 0 where
  pub above : 0 < d
  pub is : up x.top * d + down n * x.bottom ≡ up n * x.bottom + down x.top * d

-- twice the area from v at t through the entries to v' at t', between whole values
abbrev pub twice_area : {A : Type 0} → (A → ℕ) → (A → ℤ) → ℕ → ℤ → List A → ℕ → ℤ → ℤ
twice_area time z t v [] t' v' = (v +ℤ v') *ℤ pos (t' - t)
twice_area time z t v (a ∷ rest) t' v' = (v +ℤ z a) *ℤ pos (time a - t) +ℤ twice_area time z (time a) (z a) rest t' v'
