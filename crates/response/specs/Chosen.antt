-- Either of the two rules, by its meaning.
use Rattle.std.specs.Prelude.{ℕ, ℤ, Some, None, Option}
use Rattle.response.specs.declared.chosen.Rule.{Rule}
use Rattle.response.specs.declared.chosen.Rule.TheVariants.{Variable, Switching}
use Rattle.response.specs.declared.setup.Trigger.{Trigger}
use Rattle.response.specs.VariableRule.{factor_of}
use Rattle.response.specs.Weights.{Factor, one}

-- the variable rule has no trigger; that of the switching rule is the switch dip
abbrev pub triggers_of : Rule → Option Trigger
triggers_of (Variable v) = None
triggers_of (Switching s) = Some s.response.switch_dip

-- the variable rule's factor; that of the switching rule is 1
abbrev pub weighs_of : Rule → ℤ → ℕ → Factor
weighs_of (Variable v) dip offset = factor_of v dip offset
weighs_of (Switching s) dip offset = one
