-- The value of a window from compensated responses in whole hundredths of a watt: twice the area under them, where the
-- response at the window's ends is half-up.
use Rattle.std.specs.Prelude.{ℕ, ◌-◌, cond, List, ℤ, nat_lt}
use Rattle.exact.specs.Fractions.{Fraction, whole, ◌⊖◌, ◌·◌, ◌÷◌}
use Rattle.exact.specs.Rounding.{half_up}
use Rattle.exact.specs.Lines.{line}
use Rattle.exact.specs.Averages.{average}
use Rattle.exact.specs.Wholes.{twice_area}
use Rattle.response.specs.declared.group.Window.{Window}
use Rattle.response.specs.Weights.{Factor, one}
use Rattle.figure.specs.declared.point.Point.{Point}
use Rattle.figure.specs.Steps.{Weights, power, weighed, to_half_up, inside}
use Rattle.delivery.specs.declared.basis.Basis.{Basis}

-- the weight at a point, its offset counted from T; before T it is 1
abbrev pub weight_at : Weights → ℕ → Point → Factor
weight_at weight T p = cond (nat_lt p.time T) one (weight p.dip (p.time - T))

-- the compensated response, counted from a basis
abbrev pub compensated_z : Weights → Basis → Point → ℤ
compensated_z weight basis p = half_up (weighed (power p ⊖ whole basis.base) (weight_at weight basis.disturbance p))

abbrev pub end_of : (Point → ℤ) → List Point → ℕ → ℤ
end_of z points t = half_up (line (λ p. p.time) (λ p. whole (z p)) points t)

abbrev pub area_of : (Point → ℤ) → List Point → ℕ → ℕ → ℤ
area_of z points start end =
    twice_area (λ p. p.time) z start (end_of z points start) (inside start end points) end (end_of z points end)

-- multiplier times the trapezoid average, in watts
abbrev pub value_of : (Point → ℤ) → List Point → Window → Fraction
value_of z points w =
    let between = inside w.start w.end points in
    let start = whole (end_of z points w.start) in
    let end = whole (end_of z points w.end) in
    let mean = average (λ p. p.time) (λ p. whole (z p)) w.start start between w.end end in
    to_half_up (mean · w.multiplier ÷ 100)
