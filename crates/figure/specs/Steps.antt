-- The steps of the delivered figure for one case, over a rounding. They are in hundredths of a watt up to the value of a
-- window, which is in watts. T is the disturbance time, r the rounding of every step: half-up in the delivery, none in the
-- exact delivery.
use Rattle.std.specs.Prelude.{ℕ, ◌+◌, ◌-◌, ◌*◌, Bool, true, cond, ◌&&◌, List, [], ◌∷◌, ◌++◌, map, ℤ, pos, ◌*ℤ◌, Some, None, filter, Option, option_map, nat_le, nat_lt}
use Rattle.exact.specs.Fractions.{Fraction, whole, ◌⊕◌, ◌⊖◌, ◌·◌, ◌÷◌, lesser, greater}
use Rattle.exact.specs.Rounding.{half_up}
use Rattle.exact.specs.Lines.{line}
use Rattle.exact.specs.Averages.{mean, trapezoid, average}
use Rattle.timeline.specs.declared.target.Target.{Target}
use Rattle.disturbance.specs.declared.direction.Direction.{Direction}
use Rattle.disturbance.specs.Direction.{push}
use Rattle.response.specs.declared.base.BaseWindow.{BaseWindow}
use Rattle.response.specs.declared.group.Window.{Window}
use Rattle.response.specs.Weights.{Factor, one}
use Rattle.figure.specs.declared.point.Point.{Point}

-- the rounding of a step
abbrev pub Rounding : Type 0
Rounding = Fraction → Fraction

abbrev pub to_half_up : Rounding
to_half_up x = whole (half_up x)

abbrev pub unrounded : Rounding
unrounded x = x

-- the weight at each dip and offset
abbrev pub Weights : Type 0
Weights = ℤ → ℕ → Factor

-- watts in hundredths
abbrev pub hundredths : ℤ → Fraction
hundredths w = whole (w *ℤ pos 100)

-- ---- what the steps are worked out from: the record turned, its recovery, and the windows on its clock; the second is none
-- where it is empty
pub record Case : Type 0 where
  pub points : List Point
  pub direction : Direction
  pub targets : List Target
  pub disturbance : ℕ
  pub base : BaseWindow
  pub weight : Weights
  pub recovery : Option ℕ
  pub first : Window
  pub second : Option Window

-- ---- which points are asked, by their times

-- for the base, those from T − begin to T − end, both included
abbrev pub is_base : ℕ → BaseWindow → ℕ → Bool
is_base T base t = nat_le T (t + base.begin) && nat_le (t + base.end) T

abbrev pub base_points : ℕ → BaseWindow → List Point → List Point
base_points T base points = filter (λ p. is_base T base p.time) points

-- for the values, those before any recovery
abbrev pub is_used : Option ℕ → ℕ → Bool
is_used None t = true
is_used (Some recovery) t = nat_lt t recovery

abbrev pub used_points : Option ℕ → List Point → List Point
used_points recovery points = filter (λ p. is_used recovery p.time) points

-- of those, the ones between the ends of a window
abbrev pub inside : ℕ → ℕ → List Point → List Point
inside start end points = filter (λ p. nat_lt start p.time && nat_lt p.time end) points

-- ---- the power that a point enters with, for its base and for its response
abbrev pub power : Point → Fraction
power p = hundredths p.push

-- ---- a curve, by its corners: a time and the value there
pub record Corner : Type 0 where
  pub time : ℕ
  pub value : Fraction

abbrev pub corner : ℕ → Fraction → Corner
corner t v = record { time = t; value = v }

-- twice the area under it, trapezoid by trapezoid between neighbouring corners
abbrev pub twice_area : List Corner → Fraction
twice_area [] = whole (pos 0)
twice_area (a ∷ []) = whole (pos 0)
twice_area (a ∷ b ∷ []) = trapezoid a.time a.value b.time b.value
twice_area (a ∷ b ∷ d ∷ rest) = trapezoid a.time a.value b.time b.value ⊕ twice_area (b ∷ d ∷ rest)

-- a response times a weight
abbrev pub weighed : Fraction → Factor → Fraction
weighed x w = x · w.n ÷ w.d

-- the lesser value, or the first alone
abbrev pub lesser_of : Fraction → Option Fraction → Fraction
lesser_of x None = x
lesser_of x (Some y) = lesser x y

-- ---- the end and the value of a window from any response f at any points that are used, for the laws that speak of no case

-- the response at the end of a window: on its straight line, and level from the last used point on
abbrev pub window_end : Rounding → (Point → Fraction) → List Point → ℕ → Fraction
window_end r f used t = r (line (λ p. p.time) f used t)

-- multiplier times the trapezoid average, in watts
abbrev pub value_of : Rounding → (Point → Fraction) → List Point → Window → Fraction
value_of r f used w = r (average (λ p. p.time) f w.start (window_end r f used w.start) (inside w.start w.end used) w.end (window_end r f used w.end) · w.multiplier ÷ 100)

module _ (c : Case) where
  -- the weight at a point, its offset counted from T; before T it is 1
  abbrev pub weight : Point → Factor
  weight p = cond (nat_lt p.time c.disturbance) one (c.weight p.dip (p.time - c.disturbance))

  -- the points that are used
  abbrev pub used : List Point
  used = used_points c.recovery c.points

module _ (r : Rounding) (c : Case) where
  -- ---- 1. the base

  -- the straight line between targets, which turn as power does
  abbrev pub trajectory : ℕ → Fraction
  trajectory t = r (line (λ g. g.time) (λ g. hundredths (push c.direction g.power)) c.targets t)

  -- by how much the targets rise from the time t to T, where they do
  abbrev pub rise : ℕ → Fraction
  rise t = greater (whole (pos 0)) (trajectory c.disturbance ⊖ trajectory t)

  -- the push of a base point is its power; with targets it is first raised
  abbrev pub push_with : List Target → Point → Fraction
  push_with [] p = power p
  push_with (g ∷ gs) p = power p ⊕ rise p.time

  abbrev pub base_push : Point → Fraction
  base_push p = push_with c.targets p

  -- the mean over the base points, each counting once
  abbrev pub base : Fraction
  base = r (mean base_push (base_points c.disturbance c.base c.points))

  -- ---- 2. the compensated response

  -- power minus base
  abbrev pub response : Point → Fraction
  response p = power p ⊖ base

  abbrev pub compensated : Point → Fraction
  compensated p = r (weighed (response p) (weight c p))

  -- ---- 5. the value of a window

  -- the compensated response at the end of a window: on its straight line, and level from the last used point on
  abbrev pub at_end : ℕ → Fraction
  at_end t = r (line (λ p. p.time) compensated (used c) t)

  -- the curve in a window: its start, the used points between its ends, its end
  abbrev pub curve : Window → List Corner
  curve w =
      corner w.start (at_end w.start)
      ∷ (map (λ p. corner p.time (compensated p)) (inside w.start w.end (used c)) ++ corner w.end (at_end w.end) ∷ [])

  -- multiplier times the trapezoid average, in watts
  abbrev pub value : Window → Fraction
  value w = r (twice_area (curve w) ÷ (2 * (w.end - w.start)) · w.multiplier ÷ 100)

  abbrev pub first_value : Fraction
  first_value = value c.first

  abbrev pub second_value : Option Fraction
  second_value = option_map value c.second

  -- ---- 6. the lesser value, or the first alone
  abbrev pub delivery : Fraction
  delivery = lesser_of first_value second_value
