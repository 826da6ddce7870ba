-- The branch that a comparison of two natural numbers takes, by std's two lemmas read from right to left.
use Rattle.std.proofs.Common.{◌≡◌, ℕ, ◌<◌, ◌≤◌, cond, ltb, refl, sym}
use Rattle.std.proofs.lemmas.Bool.{cond_below, cond_above}

pub pick : {X : Type 0} (a b : ℕ) (x y : X) → a < b → cond (ltb a b) x y ≡ x
pick a b x y lt = sym (cond_below a b x y lt)

pub skip : {X : Type 0} (a b : ℕ) (x y : X) → b ≤ a → cond (ltb a b) x y ≡ y
skip a b x y le = sym (cond_above a b x y y le refl)
