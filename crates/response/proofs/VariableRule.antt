-- The variable rule has one ramp dip and one weight, and its factor has the weight's value.
use Rattle.std.proofs.Common.{◌≡◌, ℕ, ◌+◌, ◌-◌, ◌*◌, ◌<◌, ◌≤◌, min, max, leb, ℤ, pos, negsuc, ◌≤ℤ◌, refl, ap, ⊎_elim, mul-le-mul_right, arith}
use borrow.Author.Differences.{up, down, ints}
use Rattle.std.proofs.lemmas.Bool.{cond_both, cases_lt, leb-true, leb-false}
use Rattle.exact.specs.Fractions.{Fraction, whole, frac, ◌⊖◌, ◌÷◌, ◌≼◌, Equal}
use Rattle.exact.proofs.Naturals.{Reads, reads_self, reads_whole, reads-⊕, reads-⊖, ≼-in, ≼-out}
use Rattle.exact.proofs.Lines.{≺-out}
use Rattle.exact.proofs.Order.{reads_over, reads_by, ≼-≼, ≺-≼, ≼-≺, ≼-or-≺}
use Rattle.response.specs.declared.variable.Variable.{Variable}
use Rattle.response.specs.declared.weighing.Weight.{Weight}
use Rattle.response.specs.Limits.{IsReference, IsDeadBand}
use Rattle.response.specs.Weights.{one, value, Weighs, weight_value}
use Rattle.response.specs.VariableRule.{ramped, RampDip, Bounded, VariableWeight, ramp_thousandths, bounded, variable, WeightOf, factor_of, VariableLaws}

-- ---- one ramp dip
ramp_reads : (rate offset : ℕ) → Reads (ramped rate offset) (150 * (1 * 1000) + (offset * rate) * 1) (0 * (1 * 1000) + 0 * 1) (1 * (1 * 1000))
ramp_reads rate offset = reads-⊕ (reads_whole (pos 150)) (reads_by 1000 (omega arith) (reads_whole (pos (offset * rate))))

pub ramp_is : (rate reference offset : ℕ) → RampDip rate reference offset (frac (pos (ramp_thousandths rate reference offset)) 1000)
ramp_is rate reference offset =
    let r = reads_over (pos (ramp_thousandths rate reference offset)) 1000 (omega arith) in
    record {
      most = ≼-in r (reads_whole (pos reference)) (omega arith);
      below = ≼-in r (ramp_reads rate offset) (omega arith);
      reached = λ h. let k = ≺-out r (reads_whole (pos reference)) h in ≼-in (ramp_reads rate offset) r (omega arith);
    }

ramp_most : (rate reference offset : ℕ) {r s : Fraction} → RampDip rate reference offset r → RampDip rate reference offset s → r ≼ s
ramp_most rate reference offset {r} {s} h k = ⊎_elim (λ le. le) (λ lt. ≼-≼ h.below (k.reached (≺-≼ lt h.most))) (≼-or-≺ r s)

pub ramp_only : (rate reference offset : ℕ) (r s : Fraction) → RampDip rate reference offset r → RampDip rate reference offset s → Equal r s
ramp_only rate reference offset r s h k = (ramp_most rate reference offset h k, ramp_most rate reference offset k h)

-- the ramp dip by naturals
ramp_parts : (rate reference offset : ℕ) (r : Fraction) → RampDip rate reference offset r → 1000 * up r.top ≡ 1000 * down r.top + ramp_thousandths rate reference offset * r.bottom
ramp_parts rate reference offset r h =
    let same = ramp_only rate reference offset r _ h (ramp_is rate reference offset) in
    let p = reads_over (pos (ramp_thousandths rate reference offset)) 1000 (omega arith) in
    omega (arith, ≼-out reads_self p same.0, ≼-out p reads_self same.1)

-- ---- one weight
bounded_most : {q v w : Fraction} → Bounded q v → Bounded q w → v ≼ w
bounded_most {q} {v} {w} h k = ⊎_elim (λ le. le) (λ lt. ≼-≼ (h.below (≼-≺ k.least lt)) (k.above (≺-≼ lt h.most))) (≼-or-≺ v w)

weight_most : (rate reference dead : ℕ) (dip : ℤ) (offset : ℕ) {v w : Fraction} → VariableWeight rate reference dead dip offset v → VariableWeight rate reference dead dip offset w → v ≼ w
weight_most rate reference dead (negsuc k) offset h h' = ≼-≼ (h.in_band (omega (arith, ints))).0 (h'.in_band (omega (arith, ints))).1
weight_most rate reference dead (pos dip) offset {v} {w} h h' =
    ⊎_elim
    (λ lt. let e : dip ≡ dead + (dip - dead) = omega arith in
    let r = ramp_is rate reference offset in
    bounded_most (h.beyond (dip - dead) (omega arith) (ap pos e) _ r) (h'.beyond (dip - dead) (omega arith) (ap pos e) _ r))
    (λ le. ≼-≼ (h.in_band (omega (arith, ints))).0 (h'.in_band (omega (arith, ints))).1)
    (cases_lt dead dip)

pub weight_only : (rate reference dead : ℕ) (dip : ℤ) (offset : ℕ) (v w : Fraction) → VariableWeight rate reference dead dip offset v → VariableWeight rate reference dead dip offset w → Equal v w
weight_only rate reference dead dip offset v w h k = (weight_most rate reference dead dip offset h k, weight_most rate reference dead dip offset k h)

-- ---- the factor has the weight's value
one_is : Equal (value one) (whole (pos 1))
one_is = let p = reads_over (pos 1) 1 (omega arith) in (≼-in p (reads_whole (pos 1)) (omega arith), ≼-in (reads_whole (pos 1)) p (omega arith))

-- n over 1,000 × over against (g − l − dead × b) over b × over, where 1,000 × (g − l) is ramp × b
share_most : (g l b over dead ramp n : ℕ) → 1000 * g ≡ 1000 * l + ramp * b → n + 1000 * dead ≤ ramp → n * (b * over) + (l + dead * b) * (1000 * over) ≤ g * (1000 * over)
share_most g l b over dead ramp n e h = omega (arith, ap (λ (k : ℕ). k * over) e, mul-le-mul_right (b * over) h)

share_least : (g l b over dead ramp n : ℕ) → 1000 * g ≡ 1000 * l + ramp * b → ramp ≤ n + 1000 * dead → g * (1000 * over) ≤ n * (b * over) + (l + dead * b) * (1000 * over)
share_least g l b over dead ramp n e h = omega (arith, ap (λ (k : ℕ). k * over) e, mul-le-mul_right (b * over) h)

module _ (rate reference dead offset over : ℕ) (p : 0 < over) (ref : IsReference reference) (band : IsDeadBand dead) (r : Fraction) (h : RampDip rate reference offset r) where
  share_reads : Reads ((r ⊖ whole (pos dead)) ÷ over) (up r.top * 1 + 0 * r.bottom) (down r.top * 1 + dead * r.bottom) (r.bottom * 1 * over)
  share_reads = reads_by over p (reads-⊖ reads_self (reads_whole (pos dead)))

  factor_bounded : (n : ℕ) → n ≡ max (1000 * over) (min (ramp_thousandths rate reference offset - 1000 * dead) (3 * (1000 * over))) → Bounded ((r ⊖ whole (pos dead)) ÷ over) (frac (pos n) (1000 * over))
  factor_bounded n e =
      let w = reads_over (pos n) (1000 * over) (omega arith) in
      let parts = ramp_parts rate reference offset r h in
      record {
        least = ≼-in (reads_whole (pos 1)) w (omega arith);
        most = ≼-in w (reads_whole (pos 3)) (omega arith);
        below = λ k. let lt = ≺-out (reads_whole (pos 1)) w k in
            ≼-in w share_reads (omega (arith, share_most (up r.top) (down r.top) r.bottom over dead (ramp_thousandths rate reference offset) n parts (omega arith)));
        above = λ k. let lt = ≺-out w (reads_whole (pos 3)) k in
            ≼-in share_reads w (omega (arith, share_least (up r.top) (down r.top) r.bottom over dead (ramp_thousandths rate reference offset) n parts (omega arith)));
      }

one_weighs : (rate reference dead : ℕ) (dip : ℤ) (offset : ℕ) → dip ≤ℤ pos dead → VariableWeight rate reference dead dip offset (value one)
one_weighs rate reference dead dip offset h = record {
  in_band = λ _. one_is;
  beyond = λ over p e. absurd (omega (arith, ints, p, h, e));
}

factor_weighs : (rate reference dead dip offset : ℕ) → IsReference reference → IsDeadBand dead → dead < dip → VariableWeight rate reference dead (pos dip) offset (value (bounded (ramp_thousandths rate reference offset - 1000 * dead) (1000 * (dip - dead))))
factor_weighs rate reference dead dip offset ref band lt = record {
  in_band = λ h. absurd (omega (arith, ints));
  beyond = λ over p e r h.
      let d : max 1 (1000 * (dip - dead)) ≡ 1000 * over = omega (arith, ints, e) in
      rw d (factor_bounded rate reference dead offset over p ref band r h _ refl);
}

pub weight_is : (rate reference dead : ℕ) (dip : ℤ) (offset : ℕ) → IsReference reference → IsDeadBand dead → VariableWeight rate reference dead dip offset (value (variable rate reference dead dip offset))
weight_is rate reference dead (negsuc k) offset ref band = one_weighs rate reference dead (negsuc k) offset (omega (arith, ints))
weight_is rate reference dead (pos dip) offset ref band =
    cond_both (leb dip dead) one _ (λ f. VariableWeight rate reference dead (pos dip) offset (value f))
    (λ t. let le = leb-true dip dead t in one_weighs rate reference dead (pos dip) offset (omega (arith, ints)))
    (λ t. factor_weighs rate reference dead dip offset ref band (leb-false dip dead t))

pub laws : VariableLaws
laws = record { ramp = ramp_is; one_ramp = ramp_only; weight = weight_is; one_weight = weight_only }

-- a weight that is the rule's factor is the rule's weight
pub weighs_right : (v : Variable) (dip : ℤ) (offset : ℕ) (w : Weight) → Weighs w (factor_of v dip offset) → WeightOf v dip offset (weight_value w)
weighs_right v dip offset w h =
    rw (h.top, h.bottom) (weight_is v.rate.mhz_per_s v.response.reference_dip v.response.dead_band dip offset v.response.reference_within v.response.dead_within)
