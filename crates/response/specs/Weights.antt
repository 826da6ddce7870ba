-- Weights: what a response is multiplied by, from 1 to 3.
use Rattle.std.specs.Prelude.{◌≡◌, ℕ, ◌*◌, ◌≤◌, pos}
use Rattle.std.proofs.Common.{lit≤}
use Rattle.exact.specs.Fractions.{Fraction, frac}
use Rattle.response.specs.declared.weighing.Weight.{Weight}

-- a factor is n over d, from 1 to 3
pub record Factor : Type 0 where
  pub n : ℕ
  pub d : ℕ
  pub above : 1 ≤ d
  pub least : d ≤ n
  pub most : n ≤ 3 * d

-- the factor 1
abbrev pub one : Factor
one = record { n = 1; d = 1; above = lit≤ tt; least = lit≤ tt; most = lit≤ tt }

-- a factor as a number
abbrev pub value : Factor → Fraction
value f = frac (pos f.n) f.d

-- a weight as a number
abbrev pub weight_value : Weight → Fraction
weight_value w = frac (pos w.n) w.d

-- a weight is a factor, number for number
pub record Weighs (w : Weight) (f : Factor) : Type 0 where
  pub top : w.n ≡ f.n
  pub bottom : w.d ≡ f.d
