-- What the steps of the figure mean, in words of their subject: targets, base, response, values, and the lesser of two.
-- T is the disturbance time, c a case and r a rounding: half-up in the delivery, none in the exact delivery.
-- Powers are in hundredths of a watt, and the value of a window is in watts.
use Rattle.std.specs.Prelude.{◌≡◌, ℕ, ◌-◌, ◌<◌, ◌≤◌, ◌⊎◌, List, [], ◌∷◌, ◌++◌, length, ℤ, pos, ◌+ℤ◌, ◌-ℤ◌, ◌*ℤ◌, ◌≤ℤ◌, Some, None, Option}
use Rattle.std.specs.List.{All, AllByRecursion, Contains}
use Rattle.exact.specs.Averages.{sum_of, average}
use Rattle.exact.specs.Fractions.{Fraction, whole, ◌⊕◌, ◌⊖◌, ◌·◌, ◌≼◌, Equal}
use Rattle.exact.specs.Lines.{line}
use Rattle.exact.specs.Rounding.{HalfUp}
use Rattle.timeline.specs.declared.target.Target.{Target}
use Rattle.timeline.specs.Orders.{Ordered}
use Rattle.timeline.specs.Targets.{targets}
use Rattle.disturbance.specs.declared.direction.Direction.{Direction}
use Rattle.disturbance.specs.Direction.{push}
use Rattle.response.specs.declared.base.BaseWindow.{BaseWindow}
use Rattle.response.specs.declared.group.Window.{Window}
use Rattle.response.specs.Weights.{Factor}
use Rattle.recording.specs.declared.sample.Sample.{Sample}
use Rattle.disturbance.specs.declared.disturbance.Disturbance.{Disturbance}
use Rattle.figure.specs.declared.point.Point.{Point}
use Rattle.figure.specs.Points.{Rises}
use Rattle.figure.specs.Steps.{Rounding, Case, to_half_up, unrounded, hundredths, base_points, inside, window_end, value_of, used, trajectory, base_push, base, compensated, at_end, value, delivery}
use Rattle.figure.specs.Asked.{Asked, case_of}

-- ---- roundings

-- the figure is a whole number, the half-up of what is exact: the greatest that is not above it and one half
pub record Rounded (exact figure : Fraction) : Type 0 where
  pub number : ℤ
  pub is : figure ≡ whole number
  pub half_up : HalfUp exact number

-- ---- targets

-- the power of a target as the disturbance sees it
abbrev pub aim : Direction → Target → Fraction
aim d g = hundredths (push d g.power)

-- a case with other targets
abbrev pub with_targets : Case → List Target → Case
with_targets c gs = record c { targets = gs }

-- the trajectory of targets that are in order
pub record TrajectoryLaws (c : Case) : Type 0 where
  -- at a target's own time it is that target's own power, turned as the disturbance sees it
  pub through_targets : (earlier later : List Target) (g : Target) → Ordered targets (earlier ++ g ∷ later)
      → Equal (trajectory unrounded (with_targets c (earlier ++ g ∷ later)) g.time) (aim c.direction g)
  -- and rounding leaves it so
  pub through_targets_rounded : (earlier later : List Target) (g : Target) → Ordered targets (earlier ++ g ∷ later)
      → trajectory to_half_up (with_targets c (earlier ++ g ∷ later)) g.time ≡ aim c.direction g
  -- between neighbours g and h it is on the straight line between them: each counts by the time to the other
  pub straight_between : (earlier later : List Target) (g h : Target) (t : ℕ)
      → Ordered targets (earlier ++ g ∷ h ∷ later) → g.time ≤ t → t ≤ h.time
      → Equal (trajectory unrounded (with_targets c (earlier ++ g ∷ h ∷ later)) t · (h.time - g.time))
      (aim c.direction g · (h.time - t) ⊕ aim c.direction h · (t - g.time))
  -- it is rounded at each time, to a whole hundredth
  pub rounded_once : (t : ℕ) → Rounded (trajectory unrounded c t) (trajectory to_half_up c t)

-- the push of a base sample p, with the targets of its case
pub record RaisedLaws (r : Rounding) (c : Case) (p : Point) : Type 0 where
  -- without targets it is the sample's own
  pub own_without_targets : c.targets ≡ [] → base_push r c p ≡ hundredths p.push
  -- where the targets rise from the sample's time to T, it is raised by what they rise
  pub raised_by_rise : 0 < length c.targets → trajectory r c p.time ≼ trajectory r c c.disturbance
      → Equal (base_push r c p) (hundredths p.push ⊕ (trajectory r c c.disturbance ⊖ trajectory r c p.time))
  -- where they fall, they change nothing
  pub kept_by_fall : trajectory r c c.disturbance ≼ trajectory r c p.time → Equal (base_push r c p) (hundredths p.push)
  -- so a sample that stands on rising targets is raised to where they stand at T
  pub follows_targets : 0 < length c.targets → Equal (hundredths p.push) (trajectory r c p.time)
      → trajectory r c p.time ≼ trajectory r c c.disturbance → Equal (base_push r c p) (trajectory r c c.disturbance)

-- ---- the base

-- the time of a point lies from T − begin to T − end, both included, and either may be before the clock begins
abbrev pub InBase : ℕ → BaseWindow → Point → Type 0
InBase T base p = ((pos T -ℤ pos base.begin) ≤ℤ pos p.time) × (pos p.time ≤ℤ (pos T -ℤ pos base.end))

-- which of the points ps count for the base
pub record CountedLaws (T : ℕ) (base : BaseWindow) (ps : List Point) : Type 0 where
  -- a base sample is a point of the record, and is inside the base window
  pub no_others : (p : Point) → Contains (base_points T base ps) p → Contains ps p × InBase T base p
  -- each point of the record that is inside the base window is a base sample
  pub all_inside : (p : Point) → Contains ps p → InBase T base p → Contains (base_points T base ps) p
  -- and is one once: the times of the base samples strictly rise, as those of the record do
  pub each_once : Rises ps → Rises (base_points T base ps)

-- the base samples of a case
abbrev pub counted : Case → List Point
counted c = base_points c.disturbance c.base c.points

-- x is the mean of the values at some points: x times their number is their sum
abbrev pub IsMean : (Point → Fraction) → List Point → Fraction → Type 0
IsMean value points x = Equal (x · length points) (sum_of value points)

-- where there is a base sample
pub record BaseIsMean (c : Case) : Type 0 where
  -- the exact base is the mean of the base pushes, each counting once
  pub exact : 0 < length (counted c) → IsMean (base_push unrounded c) (counted c) (base unrounded c)
  -- the base is the mean of the base pushes, rounded once, to a whole hundredth
  pub rounded_once : (x : Fraction) → 0 < length (counted c) → IsMean (base_push to_half_up c) (counted c) x
      → Rounded x (base to_half_up c)

-- a case with other points
abbrev pub with_points : Case → List Point → Case
with_points c points = record c { points = points }

-- a point whose push is z watts more
abbrev pub pushed_by : ℤ → Point → Point
pushed_by z p = record p { push = p.push +ℤ z }

-- with the point q in the place of p the base is x more
abbrev pub MovesBy : Rounding → Case → List Point → Point → Point → List Point → Fraction → Type 0
MovesBy r c earlier p q later x =
    Equal (base r (with_points c (earlier ++ q ∷ later))) (base r (with_points c (earlier ++ p ∷ later)) ⊕ x)

-- the number of base samples with the point p among the others
abbrev pub number_with : Case → List Point → Point → List Point → ℕ
number_with c earlier p later = length (counted (with_points c (earlier ++ p ∷ later)))

-- a base sample stands on targets that rise until T
abbrev pub OnRising : Rounding → Case → Point → Type 0
OnRising r c p = Equal (hundredths p.push) (trajectory r c p.time) × (trajectory r c p.time ≼ trajectory r c c.disturbance)

-- the base, rounded by r
pub record BaseLaws (r : Rounding) : Type 0 where
  -- each base sample has the same share: at one of n, z times n watts more of push make the base z watts more
  pub same_shares : (c : Case) (earlier later : List Point) (p : Point) (z : ℤ) → InBase c.disturbance c.base p
      → MovesBy r c earlier p (pushed_by (z *ℤ pos (number_with c earlier p later)) p) later (hundredths z)
  -- the push of a point outside the base window does not matter
  pub others_out : (c : Case) (earlier later : List Point) (p : Point) (z : ℤ) → (InBase c.disturbance c.base p → ⊥)
      → base r (with_points c (earlier ++ pushed_by z p ∷ later)) ≡ base r (with_points c (earlier ++ p ∷ later))
  -- without targets, where every base sample has the same push, the base is that push
  pub level : (c : Case) (w : ℤ) → c.targets ≡ [] → 0 < length (counted c) → All (λ p. p.push ≡ w) (counted c)
      → Equal (base r c) (hundredths w)
  -- the base of a plant that stood on rising targets is where they stand at T
  pub follows_targets : (c : Case) → 0 < length c.targets → 0 < length (counted c) → All (OnRising r c) (counted c)
      → Equal (base r c) (trajectory r c c.disturbance)
  -- the base does not move with the shift, nor with the recovery
  pub not_shifted : (xs : List Sample) (d : Disturbance) (a : Asked) (recovery recovery' : Option ℕ) (shift shift' : ℤ)
      → base r (case_of xs d a recovery shift) ≡ base r (case_of xs d a recovery' shift')

-- ---- response and weight

-- x is y times the factor n over d: d times x is n times y
abbrev pub Weighed : Factor → Fraction → Fraction → Type 0
Weighed w y x = Equal (x · w.d) (y · w.n)

-- the response at a point, before its compensation: the power of its sample minus the base
abbrev pub uncompensated : Rounding → Case → Point → Fraction
uncompensated r c p = hundredths p.push ⊖ base r c

-- the factor that the rule gives at a point's dip and its offset from T
abbrev pub factor_at : Case → Point → Factor
factor_at c p = c.weight p.dip (p.time - c.disturbance)

-- the compensated response at a point p, for any rule
pub record ResponseLaws (c : Case) (p : Point) : Type 0 where
  -- from T on it is the response, weighed by what the rule says at the point's dip and its offset from T
  pub weighed_from_disturbance : c.disturbance ≤ p.time
      → Weighed (factor_at c p) (uncompensated unrounded c p) (compensated unrounded c p)
  -- at T itself the rule is asked, at offset 0
  pub weighed_at_disturbance : p.time ≡ c.disturbance
      → Weighed (c.weight p.dip 0) (uncompensated unrounded c p) (compensated unrounded c p)
  -- the weighed response is rounded once, to a whole hundredth
  pub rounded_from_disturbance : (x : Fraction) → c.disturbance ≤ p.time
      → Weighed (factor_at c p) (uncompensated to_half_up c p) x → Rounded x (compensated to_half_up c p)
  -- before T it is the response itself, whatever the rule
  pub own_before_disturbance : p.time < c.disturbance → Equal (compensated unrounded c p) (uncompensated unrounded c p)
  -- rounded or not
  pub own_before_disturbance_rounded : p.time < c.disturbance
      → Equal (compensated to_half_up c p) (uncompensated to_half_up c p)

-- ---- values

-- the points that are used between the ends of a window
abbrev pub inside_in : Case → Window → List Point
inside_in c w = inside w.start w.end (used c)

-- the trapezoid average over a window, of responses and ends as they are rounded; it is not rounded itself
abbrev pub average_in : Rounding → Case → Window → Fraction
average_in r c w =
    average (λ p. p.time) (compensated r c) w.start (at_end r c w.start) (inside_in c w) w.end (at_end r c w.end)

-- x in watts is the multiplier times the average in hundredths
abbrev pub Multiplied : Rounding → Case → Window → Fraction → Type 0
Multiplied r c w x = Equal (x · 100) (average_in r c w · w.multiplier)

-- the value of a window
pub record ValueLaws : Type 0 where
  -- the response at an end of a window is that on the straight line, rounded once, to a whole hundredth
  pub end_rounded_once : (c : Case) (t : ℕ)
      → Rounded (line (λ p. p.time) (compensated to_half_up c) (used c) t) (at_end to_half_up c t)
  -- the exact value is the multiplier times the average
  pub exact : (c : Case) (w : Window) → Multiplied unrounded c w (value unrounded c w)
  -- the value is rounded once, to a whole watt, and after the multiplier; the average is not rounded
  pub rounded_once : (c : Case) (w : Window) (x : Fraction) → Multiplied to_half_up c w x
      → Rounded x (value to_half_up c w)
  -- a compensated response that is level at so many watts has the value of the multiplier times these watts
  pub level_in_watts : (c : Case) (watts : ℤ) (w : Window) → Rises (used c) → 0 < length (used c) → w.start < w.end
      → AllByRecursion (λ p. compensated to_half_up c p ≡ hundredths watts) (used c)
      → value to_half_up c w ≡ whole (watts *ℤ pos w.multiplier)
  -- in a case, ends and values are those of its compensated responses at its used points, rounded or not; so what holds of
  -- every response at any points holds of them
  pub end_is_that_of_the_responses : (r : Rounding) (c : Case) (t : ℕ) → at_end r c t ≡ window_end r (compensated r c) (used c) t
  pub value_is_that_of_the_responses : (r : Rounding) (c : Case) (w : Window)
      → value r c w ≡ value_of r (compensated r c) (used c) w
  -- of any response at any points: it is rounded once at an end of a window, to a whole hundredth
  pub end_rounded_once_of_any_response : (f : Point → Fraction) (used : List Point) (t : ℕ)
      → Rounded (line (λ p. p.time) f used t) (window_end to_half_up f used t)
  -- a level response of so many watts, at any points, has the value of the multiplier times these watts
  pub level_in_watts_of_any_points : (watts : ℤ) (used : List Point) (w : Window) → Rises used → 0 < length used → w.start < w.end
      → value_of to_half_up (λ _. hundredths watts) used w ≡ whole (watts *ℤ pos w.multiplier)

-- ---- the delivery

-- of two values it is the lesser
pub record LesserOfBoth (r : Rounding) (c : Case) : Type 0 where
  -- it is not above the value of the first window
  pub at_most_first : delivery r c ≼ value r c c.first
  -- nor above that of the second, if there is one
  pub at_most_second : (w : Window) → c.second ≡ Some w → delivery r c ≼ value r c w
  -- and it is the value of one of them
  pub one_of_both : (w : Window) → c.second ≡ Some w
      → (delivery r c ≡ value r c c.first) ⊎ (delivery r c ≡ value r c w)
  -- without a second window it is the value of the first
  pub first_alone : c.second ≡ None → delivery r c ≡ value r c c.first

-- ---- all of them
pub record StepLaws : Type 0 where
  -- the trajectory goes through its targets and straight between them
  pub of_trajectory : (c : Case) → TrajectoryLaws c
  -- base pushes are raised where the targets rise
  pub of_raised_pushes : (r : Rounding) (c : Case) (p : Point) → RaisedLaws r c p
  -- the samples inside the base window count, each once
  pub of_base_samples : (T : ℕ) (base : BaseWindow) (ps : List Point) → CountedLaws T base ps
  -- the base is their mean, in which each has the same share, also where nothing is rounded
  pub base_is_mean : (c : Case) → BaseIsMean c
  pub of_base : BaseLaws to_half_up
  pub of_exact_base : BaseLaws unrounded
  -- the response is push minus base, weighed from T on
  pub of_response : (c : Case) (p : Point) → ResponseLaws c p
  -- a value is rounded once, after the multiplier
  pub of_values : ValueLaws
  -- the delivery is the lesser value
  pub lesser_of_both : (r : Rounding) (c : Case) → LesserOfBoth r c
