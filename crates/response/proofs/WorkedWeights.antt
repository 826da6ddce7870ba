-- The worked weights: the factor is computed, and what equals a weight is one.
use Rattle.std.proofs.Common.{◌≡◌, ℕ, ◌*◌, ◌<◌, ℤ, pos, refl, arith}
use Rattle.exact.specs.Fractions.{Fraction, frac}
use Rattle.exact.proofs.Naturals.{≼-in}
use Rattle.exact.proofs.Order.{reads_over, ≼-≼, ≺-≼, ≼-≺}
use Rattle.response.specs.Weights.{Factor, value}
use Rattle.response.specs.VariableRule.{Equal, Bounded, VariableWeight, variable}
use Rattle.response.specs.WorkedWeights.{PlainlyWeighs, WorkedWeights}
use Rattle.response.proofs.VariableRule.{weight_is, weight_only}

-- ---- another way to write a weight
bounded_too : {q v w : Fraction} → Equal v w → Bounded q v → Bounded q w
bounded_too e h = record {
  least = ≼-≼ h.least e.0;
  most = ≼-≼ e.1 h.most;
  below = λ lt. ≼-≼ e.1 (h.below (≺-≼ lt e.1));
  above = λ lt. ≼-≼ (h.above (≼-≺ e.0 lt)) e.0;
}

weight_too : {rate reference dead : ℕ} {dip : ℤ} {offset : ℕ} {v w : Fraction} → Equal v w → VariableWeight rate reference dead dip offset v → VariableWeight rate reference dead dip offset w
weight_too e h = record {
  in_band = λ k. (≼-≼ e.1 (h.in_band k).0, ≼-≼ (h.in_band k).1 e.0);
  beyond = λ over p k r ramp. bounded_too e (h.beyond over p k r ramp);
}

-- ---- a weight is what the factor is, by cross-multiplication
weighs_by : (dip n d : ℕ) → 0 < d → (variable 125 500 150 (pos dip) 2000).n * d ≡ n * (variable 125 500 150 (pos dip) 2000).d → PlainlyWeighs dip n d
weighs_by dip n d p e =
    let f : Factor = variable 125 500 150 (pos dip) 2000 in
    let r = reads_over (pos f.n) f.d (omega (arith, f.above)) in
    let s = reads_over (pos n) d p in
    let answered : Equal (value f) (frac (pos n) d) = (≼-in r s (omega (arith, e)), ≼-in s r (omega (arith, e))) in
    let weight = weight_is 125 500 150 (pos dip) 2000 (omega arith) (omega arith) in
    record {
      is = weight_too answered weight;
      only = λ w h. let same = weight_only 125 500 150 (pos dip) 2000 w _ h weight in (≼-≼ same.0 answered.0, ≼-≼ answered.1 same.1);
      answered = answered;
    }

pub worked : WorkedWeights
worked = record {
  at_150 = weighs_by 150 1 1 (omega arith) refl;
  at_200 = weighs_by 200 3 1 (omega arith) refl;
  at_300 = weighs_by 300 5 3 (omega arith) refl;
  at_450 = weighs_by 450 1 1 (omega arith) refl;
}
