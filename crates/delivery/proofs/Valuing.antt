-- The value of a window from its area.
use Rattle.std.proofs.Common.{◌≡◌, ℕ, ◌-◌, ◌*◌, ◌^◌, ◌<◌, ◌≤◌, List, ℤ, pos, ◌*ℤ◌, sym, ap, ◌∙◌, subst, mul-le-mul_left, arith, w64, SFits, to_z, of_z}
use mir.Syntax.{w128}
use Rattle.std.proofs.lemmas.Int.{to_z-of_z, to_z_pos, ints}
use Rattle.exact.specs.Fractions.{whole, frac}
use Rattle.exact.specs.Rounding.{half_up}
use Rattle.exact.specs.Limits.{Within}
use Rattle.exact.proofs.Wholes.{half_up_window}
use Rattle.exact.proofs.Limits.{within_out, within_more, within-*, within_fits, half_up_within}
use Rattle.response.specs.declared.group.Window.{Window}
use Rattle.figure.specs.declared.point.Point.{Point}
use Rattle.figure.specs.Steps.{inside}
use Rattle.delivery.specs.Areas.{area_of, value_of}
use Rattle.delivery.proofs.Held.{held}
use Rattle.delivery.specs.Limits.{widest_area, widest_dividend, widest_strip, widest_value}

pub value_is : (z : Point → ℤ) (ps : List Point) (w : Window) → w.start < w.end → (a : ℤ) → a ≡ area_of z ps w.start w.end → whole (half_up (frac (a *ℤ pos w.multiplier) (200 * (w.end - w.start)))) ≡ value_of z ps w
value_is z ps w lt a e = ap whole (ap (λ (x : ℤ). half_up (frac (x *ℤ pos w.multiplier) (200 * (w.end - w.start)))) e
    ∙ sym (half_up_window (λ p. p.time) z w.multiplier w.start _ (inside w.start w.end ps) w.end _ lt))

-- ---- what the code holds: an area r over a gap of k, times m
abbrev product : ℤ → ℕ → ℤ
product r m = to_z w128 (of_z w128 r) *ℤ to_z w128 m

pub record Fit (r : ℤ) (m k : ℕ) : Type 0 where
  pub fits : SFits w128 (product r m)
  pub is : to_z w128 (of_z w128 (product r m)) ≡ r *ℤ pos m
  pub limit : Within widest_dividend (to_z w128 (of_z w128 (product r m)))
  pub value : Within widest_value (half_up (frac (r *ℤ pos m) (200 * k)))

pub fit : {r : ℤ} {m k : ℕ} → m ≤ 2 → 0 < k → k < 2 ^ 32 → Within (widest_strip * k) r → Fit r m k
fit {r} {m} {k} le o lt h =
    let w = within_more {B = widest_area} (omega arith) h in
    let l = within_more {B = 2 * widest_area} (omega arith) (within-* m w) in
    let area = within_fits {z = r} (omega arith) w in
    let all = within_fits {z = r *ℤ pos m} (omega arith) l in
    let few : m < 2 ^ 127 = omega arith in
    record {
      fits = simp (to_z-of_z, to_z_pos) all;
      is = simp (to_z-of_z, to_z_pos);
      limit = simp (to_z-of_z, to_z_pos) (within_more (omega arith) l);
      value = half_up_within widest_value (200 * k) (r *ℤ pos m) (omega arith) (within_more (omega (arith, mul-le-mul_left (widest_strip * k) le)) (within-* m h));
    }

-- the value q fits 64 bits
pub record Valued (r : ℤ) (m k : ℕ) (q : ℤ) : Type 0 where
  pub fits : SFits w64 (to_z w128 (of_z w128 q))
  pub is : to_z w64 (of_z w64 (to_z w128 (of_z w128 q))) ≡ half_up (frac (r *ℤ pos m) (200 * k))

pub valued : {r q : ℤ} {m k : ℕ} → Fit r m k → q ≡ half_up (frac (to_z w128 (of_z w128 (product r m))) (200 * k)) → Valued r m k q
valued {r} {q} {m} {k} f e =
    let e' = e ∙ ap (λ (x : ℤ). half_up (frac x (200 * k))) f.is in
    let h = held {A = widest_value} (omega arith) e' (subst (Within widest_value) (sym e') f.value) in
    let l = within_out h.within in
    let fits : SFits w64 (to_z w128 (of_z w128 q)) = omega (arith, ints) in
    record { fits = fits; is = to_z-of_z w64 _ fits ∙ h.is }
