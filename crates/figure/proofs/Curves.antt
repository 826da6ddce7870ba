-- The area under a curve, corner by corner, is that of the trapezoids from its start through the points between to its end.
use Rattle.std.proofs.Common.{◌≡◌, ℕ, ◌-◌, ◌*◌, cond, ltb, List, [], ◌∷◌, ◌++◌, map, sym, refl, ap, ◌∙◌}
use Rattle.std.specs.List.{AllByRecursion}
use Rattle.std.proofs.ByRecursion.{all_kept_by}
use Rattle.exact.specs.Fractions.{Fraction, ◌⊕◌, ◌⊖◌, ◌·◌, ◌÷◌}
use Rattle.exact.specs.Lines.{straight, line_from, line}
use Rattle.exact.specs.Averages.{mean, trapezoid, trapezoids}
use Rattle.response.specs.declared.base.BaseWindow.{BaseWindow}
use Rattle.response.specs.declared.group.Window.{Window}
use Rattle.figure.specs.declared.point.Point.{Point}
use Rattle.figure.specs.Steps.{Rounding, Case, base_points, used_points, inside, power, corner, twice_area, weighed, value_of, weight, used, base_push, base, compensated, at_end, value}

area_is : (f : Point → Fraction) (t : ℕ) (v : Fraction) (ks : List Point) (t' : ℕ) (v' : Fraction) → twice_area (corner t v ∷ (map (λ p. corner p.time (f p)) ks ++ corner t' v' ∷ [])) ≡ trapezoids (λ p. p.time) f t v ks t' v'
area_is f t v [] t' v' = refl
area_is f t v (k ∷ []) t' v' = refl
area_is f t v (k ∷ j ∷ ks) t' v' = ap (λ x. trapezoid t v k.time (f k) ⊕ x) (area_is f k.time (f k) (j ∷ ks) t' v')

-- what the points give is all that is asked of f
module _ (f g : Point → Fraction) where
  abbrev Same : List Point → Type 0
  Same ps = AllByRecursion (λ p. f p ≡ g p) ps

  line_from_same : (t : ℕ) (v : Fraction) (ks : List Point) (u : ℕ) → Same ks → line_from (λ p. p.time) f t v ks u ≡ line_from (λ p. p.time) g t v ks u
  line_from_same t v [] u h = refl
  line_from_same t v (k ∷ ks) u h = rw h.0 (ap (λ x. cond (ltb u k.time) (straight t v k.time (g k) u) x) (line_from_same k.time (g k) ks u h.1))

  line_same : (ps : List Point) (u : ℕ) → Same ps → line (λ p. p.time) f ps u ≡ line (λ p. p.time) g ps u
  line_same [] u h = refl
  line_same (p ∷ ps) u h = rw h.0 (line_from_same p.time (g p) ps u h.1)

  trapezoids_same : (t : ℕ) (v : Fraction) (ks : List Point) (t' : ℕ) (v' : Fraction) → Same ks → trapezoids (λ p. p.time) f t v ks t' v' ≡ trapezoids (λ p. p.time) g t v ks t' v'
  trapezoids_same t v [] t' v' h = refl
  trapezoids_same t v (k ∷ ks) t' v' h = rw h.0 (ap (λ x. trapezoid t v k.time (g k) ⊕ x) (trapezoids_same k.time (g k) ks t' v' h.1))

  pub value_of_same : (r : Rounding) (ps : List Point) (w : Window) → Same ps → value_of r f ps w ≡ value_of r g ps w
  value_of_same r ps w h =
      rw (line_same ps w.start h, line_same ps w.end h)
      (ap (λ x. r (x ÷ (2 * (w.end - w.start)) · w.multiplier ÷ 100)) (trapezoids_same w.start _ (inside w.start w.end ps) w.end _ (all_kept_by _ _ ps h)))

pub value_is : (r : Rounding) (c : Case) (w : Window) → value r c w ≡ value_of r (compensated r c) (used c) w
value_is r c w = ap (λ x. r (x ÷ (2 * (w.end - w.start)) · w.multiplier ÷ 100)) (area_is (compensated r c) w.start (at_end r c w.start) (inside w.start w.end (used c)) w.end (at_end r c w.end))

-- ---- what the values rest on beside their windows: the points of the base and those that are used

-- the compensated response from a base
abbrev pub from_base : Rounding → Case → Fraction → Point → Fraction
from_base r c b p = r (weighed (power p ⊖ b) (weight c p))

pub value_from : (r : Rounding) (c : Case) (b : Fraction) (w : Window) → b ≡ base r c → value_of r (from_base r c b) (used c) w ≡ value r c w
value_from r c b w e = ap (λ x. value_of r (from_base r c x) (used c) w) e ∙ sym (value_is r c w)

-- the same of other points and another base window
pub value_over : (r : Rounding) (c : Case) (ps : List Point) (v : BaseWindow) → base_points c.disturbance c.base c.points ≡ base_points c.disturbance v ps → used c ≡ used_points c.recovery ps → (w : Window) → value r c w ≡ value r (record c { points = ps; base = v }) w
value_over r c ps v base-same used-same w =
    value_is r c w ∙ ap (λ ks. value_of r (compensated r c) ks w) used-same
    ∙ value_from r (record c { points = ps; base = v }) (base r c) w (ap (λ ks. r (mean (base_push r c) ks)) base-same)
