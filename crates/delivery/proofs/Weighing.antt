-- The compensated response as a whole number, and its limit.
use Rattle.std.proofs.Common.{◌≡◌, ℕ, ◌+◌, ◌^◌, ◌<◌, ◌≤◌, ℤ, pos, ◌-ℤ◌, ◌*ℤ◌, sym, refl, ap, ◌∙◌, subst, arith, SFits, to_z, of_z}
use mir.Syntax.{w128}
use Rattle.std.proofs.lemmas.Int.{to_z-of_z, to_z_pos}
use Rattle.exact.specs.Fractions.{whole, frac, ◌⊖◌}
use Rattle.exact.specs.Rounding.{half_up}
use Rattle.exact.specs.Wholes.{Is}
use Rattle.exact.specs.Limits.{Within}
use Rattle.exact.proofs.Wholes.{is_whole, is-⊖, is-·, is-÷, half_up_of}
use Rattle.exact.proofs.Limits.{within_more, within--, within-*, within_fits, half_up_within}
use Rattle.response.specs.declared.weighing.Weight.{Weight}
use Rattle.response.specs.Weights.{Factor, Weighs}
use Rattle.figure.specs.declared.point.Point.{Point}
use Rattle.figure.specs.Steps.{Weights, power, weighed}
use Rattle.delivery.specs.declared.basis.Basis.{Basis}
use Rattle.delivery.specs.Limits.{Tame, widest_base, widest_dividend, widest_height, widest_response}
use Rattle.delivery.specs.Areas.{weight_at, compensated_z}

weighed_is : (z b : ℤ) (w : Factor) → Is (weighed (whole z ⊖ whole b) w) ((z -ℤ b) *ℤ pos w.n) w.d
weighed_is z b w = subst (λ (d : ℕ). Is (weighed (whole z ⊖ whole b) w) ((z -ℤ b) *ℤ pos w.n) d) (omega arith) (is-÷ w.d w.above (is-· w.n (is-⊖ (is_whole z) (is_whole b))))

half_up_weighed : (z b : ℤ) (w : Factor) → half_up (weighed (whole z ⊖ whole b) w) ≡ half_up (frac ((z -ℤ b) *ℤ pos w.n) w.d)
half_up_weighed z b w = half_up_of (weighed_is z b w)

-- z is the power of p
pub meets : (weight : Weights) (basis : Basis) (p : Point) (w : Weight) (z : ℤ) → whole z ≡ power p → Weighs w (weight_at weight basis.disturbance p) → half_up (frac ((z -ℤ basis.base) *ℤ pos w.n) w.d) ≡ compensated_z weight basis p
meets weight basis p w z e h =
    let f : Factor = weight_at weight basis.disturbance p in
    rw (h.top, h.bottom) (sym (half_up_weighed z basis.base f) ∙ ap (λ x. half_up (weighed (x ⊖ whole basis.base) f)) e)

-- the response in hundredths
response_within : {z b : ℤ} → Within widest_height z → Within widest_base b → Within (widest_height + widest_base) (z -ℤ b)
response_within h k = within_more (omega arith) (within-- h k)

pub few : (w : Weight) → w.n ≤ 9000000
few w = omega (arith, w.bottom, w.top)

-- ---- what the code holds: z is the power, b the base, n the top of the weight
abbrev product : ℤ → ℤ → ℕ → ℤ
product z b n = to_z w128 (of_z w128 (to_z w128 (of_z w128 z) -ℤ to_z w128 (of_z w128 b))) *ℤ to_z w128 n

pub record Fit (z b : ℤ) (n : ℕ) : Type 0 where
  pub fits : SFits w128 (product z b n)
  pub is : to_z w128 (of_z w128 (product z b n)) ≡ (z -ℤ b) *ℤ pos n
  pub limit : Within widest_dividend (to_z w128 (of_z w128 (product z b n)))

pub fit : {z b : ℤ} {n : ℕ} → Within widest_height z → Within widest_base b → n ≤ 9000000 → Fit z b n
fit {z} {b} {n} h k le =
    let power = within_fits {z = z} (omega arith) h in
    let base = within_fits {z = b} (omega arith) k in
    let response = within_fits {z = z -ℤ b} (omega arith) (response_within h k) in
    let m = within-* n (response_within h k) in
    let whole_is = within_fits {z = (z -ℤ b) *ℤ pos n} (omega arith) m in
    let narrow-top : n < 2 ^ 127 = omega arith in
    record { fits = simp (to_z-of_z, to_z_pos) whole_is; is = simp (to_z-of_z, to_z_pos); limit = simp (to_z-of_z, to_z_pos) (within_more (omega arith) m) }

-- the power of a point
pub power_within : (p : Point) → Tame p → (z : ℤ) × Within widest_height z × (whole z ≡ power p)
power_within p h = (p.push *ℤ pos 100, within_more (omega arith) (within-* 100 h.push_within), refl)

pub compensated_within : (weight : Weights) (basis : Basis) (p : Point) → Tame p → Within widest_response (compensated_z weight basis p)
compensated_within weight basis p h =
    let w : Factor = weight_at weight basis.disturbance p in
    let (z, small, e) = power_within p h in
    let m = within-* w.n (response_within small basis.within) in
    subst (λ x. Within widest_response (half_up (weighed (x ⊖ whole basis.base) w))) e (rw (half_up_weighed z basis.base w) (half_up_within widest_response w.d _ w.above (within_more (omega (arith, w.most)) m)))
