-- A straight line that climbs to a goal reaches it first at a rounded-up quotient.
use Rattle.std.proofs.Common.{◌≡◌, ℕ, ◌+◌, ◌-◌, ◌*◌, ◌/◌, ◌<◌, ◌≤◌, sym, ap, ◌∙◌, subst, inl, inr, mul-le-mul_right, mul-le-mul_left, arith}
use native.Mathlib.Nat.{mul-div-le, lt-mul-div-succ}
use Rattle.std.specs.Int.{div_ceil}
use Rattle.std.proofs.lemmas.Bool.{cases_lt}
use Rattle.std.proofs.lemmas.Grind.{div_ceil_times}
use Rattle.exact.specs.First.{First}
use Rattle.disturbance.specs.Crossing.{Reached}

-- q steps of d make up m, and no fewer do
pub record Steps (m d q : ℕ) : Type 0 where
  pub enough : m ≤ d * q
  pub least : d * q < m + d

module _ (m d : ℕ) (some : 0 < d) where
  pub rounded_steps : (q : ℕ) → q ≡ div_ceil m d → Steps m d q
  rounded_steps q is =
      let e = ap (λ n. n * d) is in
      let h = div_ceil_times m d some in
      record { enough = omega (arith, h.0, e); least = omega (arith, h.1, e) }

  pub next_steps : Steps (m + 1) d (m / d + 1)
  next_steps = record { enough = omega (arith, lt-mul-div-succ m some); least = omega (arith, mul-div-le m d) }

-- the line, p before the end and q after the start
-- over e more
pub line_more : (x y p q e : ℕ) → x ≤ y → x * (p + e) + y * q ≤ x * p + y * (q + e)
line_more x y p q e le = omega (arith, mul-le-mul_right e le)

pub line_less : (x y p q e : ℕ) → y ≤ x → x * p + y * (q + e) ≤ x * (p + e) + y * q
line_less x y p q e le = omega (arith, mul-le-mul_right e le)

pub climbs : (x y p q goal : ℕ) → x * p + y * q < goal → goal ≤ y * (p + q) → x < y
climbs x y p q goal under over = elim (cases_lt x y) [ inl lt ↦ lt | inr ge ↦ absurd (omega (arith, mul-le-mul_right p ge)) ]

pub climbing : (x y p q : ℕ) → x ≤ y → x * p + y * q ≡ x * (p + q) + (y - x) * q
climbing x y p q le = let d = y - x in let e : y ≡ x + d = omega arith in omega (arith, ap (λ n. n * q) e)

-- under the goal at from and at the end, so in between
pub never_reached : (start x end y goal from u : ℕ) → start ≤ from → x * (end - from) + y * (from - start) < goal → y * (end - start) < goal → Reached start x end y goal from u → ⊥
never_reached start x end y goal from u le under over r =
    let p = end - u in
    let e = u - from in
    let q = from - start in
    let f1 : end - from ≡ p + e = omega arith in
    let f2 : u - start ≡ q + e = omega arith in
    let f3 : end - start ≡ p + e + q = omega arith in
    let g1 = ap (λ n. x * n) f1 in
    let g2 = ap (λ n. y * n) f2 in
    let g3 = ap (λ n. y * n) f3 in
    elim (cases_lt x y) [
      | inl lt ↦ omega (arith, mul-le-mul_right p (let h : x ≤ y = omega arith in h), g1, g2, g3, r.level)
      | inr ge ↦ omega (arith, line_less x y p q e ge, g1, g2, g3, r.level)
    ]

-- under the goal at from, and not at the end
pub record Crosses (start x end y goal from : ℕ) : Type 0 where
  pub le : start ≤ from
  pub le' : from ≤ end
  pub under : x * (end - from) + y * (from - start) < goal
  pub over : goal ≤ y * (end - start)

module _ {start x end y goal from : ℕ} (c : Crosses start x end y goal from) where
  whole_span : (u : ℕ) → start ≤ u → u ≤ end → x < y → x * (end - u) + y * (u - start) ≡ x * (end - start) + (y - x) * (u - start)
  whole_span u h k lt =
      let f : end - u + (u - start) ≡ end - start = omega arith in
      climbing x y (end - u) (u - start) (omega arith) ∙ ap (λ n. x * n + (y - x) * (u - start)) f

  pub crossing_climbs : x < y
  crossing_climbs =
      let f : end - from + (from - start) ≡ end - start = omega arith in
      climbs x y (end - from) (from - start) goal c.under (omega (arith, ap (λ n. y * n) f))

  pub crossing_base : x * (end - start) ≤ goal
  crossing_base = omega (arith, whole_span from c.le c.le' crossing_climbs)

  module _ (q : ℕ) (made : Steps (goal - x * (end - start)) (y - x) q) where
    fewer : (p : ℕ) → p < q → (y - x) * p < goal - x * (end - start)
    fewer p lt = omega (arith, mul-le-mul_left (y - x) lt, made.least)

    pub crossing_within : q ≤ end - start
    crossing_within =
        let d = y - x in
        let lt = crossing_climbs in
        let all : y * (end - start) ≡ x * (end - start) + d * (end - start) = let e : y ≡ x + d = omega arith in omega (arith, ap (λ n. n * (end - start)) e) in
        elim (cases_lt (end - start) q) [
          | inl more ↦ absurd (omega (arith, fewer (end - start) more, c.over))
          | inr within ↦ within
        ]

    pub crossing_first : First (Reached start x end y goal from) (start + q)
    crossing_first =
        let d = y - x in
        let lt = crossing_climbs in
        let base = crossing_base in
        let within : q ≤ end - start = crossing_within in
        let back : start + q - start ≡ q = omega arith in
        let at = whole_span (start + q) (omega arith) (omega arith) lt in
        let e = ap (λ n. (y - x) * n) back in
        let here = whole_span from c.le c.le' lt in
        let later : from ≤ start + q = elim (cases_lt (start + q) from) [
          | inl before ↦ absurd (let le2 : q ≤ from - start = omega arith in omega (arith, mul-le-mul_left d le2, made.enough, c.under))
          | inr after ↦ after
        ] in
        record {
          holds = record { after = later; until = omega arith; level = omega (arith, made.enough) };
          earlier = λ u before r.
              let f : u - start < q = omega (arith, r.after) in
              let there = whole_span u (omega (arith, r.after)) (omega (arith, r.until)) lt in
              omega (arith, r.level, fewer (u - start) f);
        }

-- a line that starts at an edge or below it and ends above it is first above it one step after the whole steps to the edge
pub past_edge : (start x end y edge : ℕ) → start < end → x ≤ edge → edge < y → First (Reached start x end y (edge * (end - start) + 1) (start + 1)) (start + ((edge - x) * (end - start) / (y - x) + 1))
past_edge start x end y edge lt below above =
    let n = end - start in
    let q = (edge - x) * n / (y - x) + 1 in
    let none : start - start ≡ 0 = omega arith in
    let c : Crosses start x end y (edge * n + 1) start = record {
      le = omega arith;
      le' = omega arith;
      under = omega (arith, mul-le-mul_right n below, ap (λ k. y * k) none);
      over = omega (arith, mul-le-mul_right n above);
    } in
    let rest : edge * n + 1 - x * n ≡ (edge - x) * n + 1 = let m = edge - x in let e : edge ≡ x + m = omega arith in omega (arith, ap (λ k. k * n) e) in
    let made : Steps (edge * n + 1 - x * n) (y - x) q = subst (λ m. Steps m (y - x) q) (sym rest) (next_steps ((edge - x) * n) (y - x) (omega arith)) in
    let f = crossing_first c q made in
    record {
      holds = record { after = omega arith; until = f.holds.until; level = f.holds.level };
      earlier = λ u less r. f.earlier u less (record { after = omega (arith, r.after); until = r.until; level = r.level });
    }
