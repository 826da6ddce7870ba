-- The variable rule: its weight as a rule about fractions, and the factor that has that value.
use Rattle.std.specs.Prelude.{◌≡◌, ℕ, ◌+◌, ◌-◌, ◌*◌, ◌<◌, ◌≤◌, min, max, cond, ℤ, pos, negsuc, ◌≤ℤ◌, nat_le}
use Rattle.std.proofs.Common.{lit<, mul_comm, subst}
use Rattle.std.proofs.Math.Nat.{le-max_left, max-le, min-le_right, le-mul_of_pos_right}
use Rattle.exact.specs.Fractions.{Fraction, whole, frac, ◌⊕◌, ◌⊖◌, ◌÷◌, ◌≼◌, ◌≺◌}
use Rattle.response.specs.declared.variable.Variable.{Variable}
use Rattle.response.specs.Limits.{IsReference, IsDeadBand}
use Rattle.response.specs.Weights.{Factor, one, value}
-- equal as numbers
pub use Rattle.exact.specs.Fractions.{Equal}

-- 150 and offset × rate ÷ 1,000
abbrev pub ramped : (rate offset : ℕ) → Fraction
ramped rate offset = whole (pos 150) ⊕ whole (pos (offset * rate)) ÷ 1000

-- r is the ramp dip: 150 and offset × rate ÷ 1,000, but at most the reference dip
pub record RampDip (rate reference offset : ℕ) (r : Fraction) : Type 0 where
  pub most : r ≼ whole (pos reference)
  pub below : r ≼ ramped rate offset
  pub reached : r ≺ whole (pos reference) → ramped rate offset ≼ r

-- w is q, raised to at least 1 and cut to at most 3
pub record Bounded (q w : Fraction) : Type 0 where
  pub least : whole (pos 1) ≼ w
  pub most : w ≼ whole (pos 3)
  pub below : whole (pos 1) ≺ w → w ≼ q
  pub above : w ≺ whole (pos 3) → q ≼ w

-- w is the weight: 1 up to the dead band; beyond it (ramp dip − dead band) ÷ (dip − dead band), raised to at least 1 and cut to at most 3
pub record VariableWeight (rate reference dead : ℕ) (dip : ℤ) (offset : ℕ) (w : Fraction) : Type 0 where
  pub in_band : dip ≤ℤ pos dead → Equal w (whole (pos 1))
  pub beyond : (over : ℕ) → 0 < over → dip ≡ pos (dead + over) → (r : Fraction) → RampDip rate reference offset r → Bounded ((r ⊖ whole (pos dead)) ÷ over) w

-- thousandths of the ramp dip
abbrev pub ramp_thousandths : (rate reference offset : ℕ) → ℕ
ramp_thousandths rate reference offset = min (150000 + offset * rate) (1000 * reference)

-- three times a number is no less than the number
pub at_most_thrice : (e : ℕ) → e ≤ 3 * e
at_most_thrice e = subst (λ (k : ℕ). e ≤ k) (mul_comm e 3) (le-mul_of_pos_right e (lit< tt))

-- n over d, raised to at least 1 and cut to at most 3, for d above 0
abbrev pub bounded : ℕ → ℕ → Factor
bounded n d =
    let e : ℕ = max 1 d in
    record { n = max e (min n (3 * e)); d = e; above = le-max_left 1 d; least = le-max_left e (min n (3 * e)); most = max-le (at_most_thrice e) (min-le_right n (3 * e)) }

-- the factor of the variable rule
abbrev pub variable : (rate reference dead : ℕ) → ℤ → ℕ → Factor
variable rate reference dead (pos dip) offset = cond (nat_le dip dead) one (bounded (ramp_thousandths rate reference offset - 1000 * dead) (1000 * (dip - dead)))
variable rate reference dead (negsuc k) offset = one

-- the weight of a rule with its own rate and settings
abbrev pub WeightOf : Variable → ℤ → ℕ → Fraction → Type 0
WeightOf v = VariableWeight v.rate.mhz_per_s v.response.reference_dip v.response.dead_band

-- the factor of such a rule
abbrev pub factor_of : Variable → ℤ → ℕ → Factor
factor_of v = variable v.rate.mhz_per_s v.response.reference_dip v.response.dead_band

-- what holds of the rule: there is one ramp dip and one weight, and the factor has the weight's value
pub record VariableLaws : Type 0 where
  pub ramp : (rate reference offset : ℕ) → RampDip rate reference offset (frac (pos (ramp_thousandths rate reference offset)) 1000)
  pub one_ramp : (rate reference offset : ℕ) (r s : Fraction) → RampDip rate reference offset r → RampDip rate reference offset s → Equal r s
  pub weight : (rate reference dead : ℕ) (dip : ℤ) (offset : ℕ) → IsReference reference → IsDeadBand dead → VariableWeight rate reference dead dip offset (value (variable rate reference dead dip offset))
  pub one_weight : (rate reference dead : ℕ) (dip : ℤ) (offset : ℕ) (v w : Fraction) → VariableWeight rate reference dead dip offset v → VariableWeight rate reference dead dip offset w → Equal v w
