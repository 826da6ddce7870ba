-- A straight line between limits stays between them, so that what is worked out on the way fits.
use Rattle.std.proofs.Common.{◌≡◌, ℕ, ◌-◌, ◌^◌, ◌<◌, ◌≤◌, ℤ, pos, ◌+ℤ◌, ◌-ℤ◌, ◌*ℤ◌, sym, ap, ◌∙◌, subst, arith, SFits, to_z, of_z}
use mir.Syntax.{w128}
use Rattle.std.proofs.lemmas.Int.{to_z-of_z, to_z_pos}
use Rattle.exact.specs.Fractions.{frac}
use Rattle.exact.specs.Rounding.{half_up}
use Rattle.exact.specs.Limits.{Within}
use Rattle.exact.proofs.Limits.{within--, within-*, within_fits, within_more, half_up_within}
use Rattle.exact.proofs.Wholes.{half_up_straight, straight_within}
use Rattle.delivery.proofs.Held.{held}
use Rattle.delivery.specs.Limits.{widest_dividend, widest_response}
use Rattle.delivery.proofs.rounding.straight_half_up.Goals as goal

-- a number as the code holds it
abbrev kept : ℤ → ℤ
kept z = to_z w128 (of_z w128 z)

-- the two products of the code, and their sum
abbrev first : ℕ → ℕ → ℤ → ℤ
first t s v = kept v *ℤ to_z w128 (s - t)

abbrev second : ℕ → ℕ → ℤ → ℤ → ℤ
second t u v w = kept (kept w -ℤ kept v) *ℤ to_z w128 (u - t)

abbrev top : ℕ → ℕ → ℕ → ℤ → ℤ → ℤ
top t s u v w = kept (first t s v) +ℤ kept (second t u v w)

record Fit (t s u : ℕ) (v w : ℤ) : Type 0 where
  first_fits : SFits w128 (first t s v)
  second_fits : SFits w128 (second t u v w)
  top_fits : SFits w128 (top t s u v w)
  is : kept (top t s u v w) ≡ v *ℤ pos (s - t) +ℤ (w -ℤ v) *ℤ pos (u - t)
  limit : Within widest_dividend (kept (top t s u v w))

fit : {t s u : ℕ} {v w : ℤ} → (t < s) × ((t ≤ u) × ((u ≤ s) × (Within widest_response v × Within widest_response w))) → s < 2 ^ 32 → Fit t s u v w
fit {t} {s} {u} {v} {w} (lt, (le, (le', (hv, hw)))) small =
    let l = within_more {B = widest_dividend} (omega arith) (straight_within widest_response t s u v w le le' hv hw) in
    let left = within_fits {z = v} (omega arith) hv in
    let right = within_fits {z = w} (omega arith) hw in
    let rise = within_fits {z = w -ℤ v} (omega arith) (within-- hw hv) in
    let a = within_fits {z = v *ℤ pos (s - t)} (omega arith) (within-* (s - t) hv) in
    let b = within_fits {z = (w -ℤ v) *ℤ pos (u - t)} (omega arith) (within-* (u - t) (within-- hw hv)) in
    let n = within_fits {z = v *ℤ pos (s - t) +ℤ (w -ℤ v) *ℤ pos (u - t)} (omega arith) l in
    let gap : s - t < 2 ^ 127 = omega arith in
    let step : u - t < 2 ^ 127 = omega arith in
    record { first_fits = simp (to_z-of_z, to_z_pos) a; second_fits = simp (to_z-of_z, to_z_pos) b; top_fits = simp (to_z-of_z, to_z_pos) n; is = simp (to_z-of_z, to_z_pos); limit = simp (to_z-of_z, to_z_pos) l }

pub overflow_mul-v : goal.overflow_mul-v
overflow_mul-v c = (fit c.requires (omega arith)).first_fits

pub overflow_mul-w : goal.overflow_mul-w
overflow_mul-w c = (fit c.requires (omega arith)).second_fits

pub overflow_add-v : goal.overflow_add-v
overflow_add-v c = (fit c.requires (omega arith)).top_fits

pub half_up-requires : goal.half_up-requires
half_up-requires c = (omega arith, (fit c.requires (omega arith)).limit)

pub returns : goal.returns
returns c =
    let e = c.half_up.ensures ∙ ap (λ (n : ℤ). half_up (frac n (c.args.s - c.args.t))) (fit c.requires (omega arith)).is in
    let within : (A : ℕ) → Within A c.args.v → Within A c.args.w → Within A c.half_up.result =
    λ A hv hw. subst (Within A) (sym e) (half_up_within A (c.args.s - c.args.t) _ (omega arith) (straight_within A c.args.t c.args.s c.args.u c.args.v c.args.w c.requires.1.0 c.requires.1.1.0 hv hw)) in
    let r = held {A = widest_response} (omega arith) e (within widest_response c.requires.1.1.1.0 c.requires.1.1.1.1) in
    record { is = r.is ∙ sym (half_up_straight c.args.t c.args.s c.args.u c.args.v c.args.w c.requires.0); within = λ A hv hw. subst (Within A) (sym (r.is ∙ sym e)) (within A hv hw) }
