-- Worked weights: the variable rule with plain settings, 2,000 ms after the disturbance.
use Rattle.std.specs.Prelude.{ℕ, pos}
use Rattle.exact.specs.Fractions.{Fraction, frac}
use Rattle.response.specs.Settings.{plain_numbers}
use Rattle.response.specs.Weights.{value}
use Rattle.response.specs.VariableRule.{Equal, VariableWeight, variable}

-- w is the weight at the dip
abbrev pub PlainWeight : ℕ → Fraction → Type 0
PlainWeight dip w =
    VariableWeight plain_numbers.rate plain_numbers.reference_dip plain_numbers.dead_band (pos dip) 2000 w

-- the weight at the dip is n over d: that is a weight there, every weight there equals it, and so does the factor
-- that a rule answers
pub record PlainlyWeighs (dip n d : ℕ) : Type 0 where
  pub is : PlainWeight dip (frac (pos n) d)
  pub only : (w : Fraction) → PlainWeight dip w → Equal w (frac (pos n) d)
  pub answered : Equal
      (value (variable plain_numbers.rate plain_numbers.reference_dip plain_numbers.dead_band (pos dip) 2000))
      (frac (pos n) d)

-- the worked weights, all at once
pub record WorkedWeights : Type 0 where
  pub at_150 : PlainlyWeighs 150 1 1
  pub at_200 : PlainlyWeighs 200 3 1
  pub at_300 : PlainlyWeighs 300 5 3
  pub at_450 : PlainlyWeighs 450 1 1
