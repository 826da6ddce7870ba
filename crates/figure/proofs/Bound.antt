-- Each step of the delivery with its error, in hundredths of the step's unit.
use Rattle.std.proofs.Common.{ℕ, ◌+◌, ◌-◌, ◌*◌, ◌/◌, ◌≤◌, List, [], ◌∷◌, Some, None, Option, option_map, mul-le-mul_left, arith}
use Rattle.exact.specs.Fractions.{Fraction}
use Rattle.exact.proofs.Near.{Near, near_refl, near_more, near_trans, near-⊕, near-⊖, near-·, near-÷, near_lesser, near_greater}
use Rattle.exact.proofs.Rounding.{half_up_near}
use Rattle.exact.proofs.NearLines.{gaps, mean_near, line_near, average_near}
use Rattle.exact.proofs.Averages.{climbs_gaps}
use Rattle.timeline.specs.declared.target.Target.{Target}
use Rattle.response.specs.declared.group.Window.{Window}
use Rattle.response.specs.Weights.{Factor}
use Rattle.figure.specs.declared.point.Point.{Point}
use Rattle.figure.specs.Points.{Rises}
use Rattle.figure.specs.Windows.{Proper}
use Rattle.figure.specs.Steps.{Rounding, to_half_up, unrounded, Case, base_points, is_used, inside, weighed, weight, used, push_with, base_push, base, compensated, at_end, value, lesser_of, delivery}
use Rattle.figure.proofs.Curves.{value_is}
use Rattle.figure.proofs.Rising.{rises_kept, inside_climbs}

abbrev pub ProperOrNone : Option Window → Type 0
ProperOrNone None = Unit {0}
ProperOrNone (Some w) = Proper w

-- ---- the errors: of one rounding, of a base push, which rounds two heights of targets, and of what is worked out from it; a weight is at most 3, a multiplier at most 2
abbrev pub rounding_error : ℕ
rounding_error = 50

abbrev push_error : ℕ
push_error = 2 * rounding_error

abbrev base_error : ℕ
base_error = rounding_error + push_error

abbrev response_error : ℕ
response_error = rounding_error + 3 * base_error

abbrev end_error : ℕ
end_error = rounding_error + response_error

abbrev pub value_error : ℕ
value_error = rounding_error + 2 * end_error / 100

-- ---- the steps, rounded by r and not rounded
module _ (r : Rounding) (keeps : (x : Fraction) → Near rounding_error (r x) x) where
  rounded : {n : ℕ} {x y : Fraction} → Near n x y → Near (rounding_error + n) (r x) y
  rounded {x = x} h = near_trans (keeps x) h

  push_near : (c : Case) (gs : List Target) (p : Point) → Near push_error (push_with r c gs p) (push_with unrounded c gs p)
  push_near c [] p = near_more (omega arith) near_refl
  push_near c (g ∷ gs) p = near-⊕ near_refl (near_greater (near_more (omega arith) near_refl) (near-⊖ (keeps _) (keeps _)))

  base_near : (c : Case) → Near base_error (base r c) (base unrounded c)
  base_near c = rounded (mean_near (λ p. p.time) (base_push r c) (base_push unrounded c) push_error (push_near c c.targets) (base_points c.disturbance c.base c.points))

  weighed_near : {n : ℕ} {x y : Fraction} (w : Factor) → Near n x y → Near (3 * n) (weighed x w) (weighed y w)
  weighed_near {n} w h = near-÷ w.d (omega (arith, mul-le-mul_left n w.most)) (near-· w.n h)

  compensated_near : (c : Case) (p : Point) → Near response_error (compensated r c p) (compensated unrounded c p)
  compensated_near c p = rounded (weighed_near (weight c p) (near-⊖ near_refl (base_near c)))

  at_end_near : (c : Case) (t : ℕ) → Near end_error (at_end r c t) (at_end unrounded c t)
  at_end_near c t = rounded (line_near (λ p. p.time) (compensated r c) (compensated unrounded c) response_error (compensated_near c) (used c) t)

  module _ (c : Case) (rises : Rises c.points) where
    value_near : (w : Window) → Proper w → Near value_error (value r c w) (value unrounded c w)
    value_near w proper =
        let between = inside w.start w.end (used c) in
        let climbs = inside_climbs w.start w.end (used c) (rises_kept (λ p. is_used c.recovery p.time) c.points rises) (omega (arith, proper.rises)) in
        let short : gaps (λ p. p.time) w.start between w.end ≤ w.end - w.start = omega (arith, climbs_gaps (λ p. p.time) w.start _ w.end climbs) in
        rw (value_is r c w, value_is unrounded c w) (rounded {n = 2 * end_error / 100} (near-÷ 100 (omega (arith, proper.times)) (near-· w.multiplier
        (average_near (λ p. p.time) (compensated r c) (compensated unrounded c) response_error (compensated_near c) end_error (omega arith) w.start _ _ between w.end _ _ short (at_end_near c w.start) (at_end_near c w.end)))))

    lesser_of_near : (first : Window) (second : Option Window) → Proper first → ProperOrNone second → Near value_error (lesser_of (value r c first) (option_map (value r c) second)) (lesser_of (value unrounded c first) (option_map (value unrounded c) second))
    lesser_of_near first None p q = value_near first p
    lesser_of_near first (Some w) p q = near_lesser (value_near first p) (value_near w q)

-- the delivery is less than a watt off: 61 hundredths at most
pub delivery_near : (c : Case) → Rises c.points → Proper c.first → ProperOrNone c.second → Near value_error (delivery to_half_up c) (delivery unrounded c)
delivery_near c rises p q = lesser_of_near to_half_up half_up_near c rises c.first c.second p q
