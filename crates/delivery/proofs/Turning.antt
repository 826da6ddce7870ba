-- A turn of the walk over the points, as code holds it.
use Rattle.std.proofs.Common.{◌≡◌, ℕ, ◌+◌, ◌-◌, ◌*◌, ◌^◌, ◌<◌, ◌≤◌, max, List, length, get_or, ℤ, pos, ◌+ℤ◌, ◌*ℤ◌, sym, refl, subst, arith, to_z, of_z}
use mir.Syntax.{w128}
use Rattle.std.proofs.ByRecursion.{All-weaker}
use Rattle.exact.specs.Fractions.{whole}
use Rattle.exact.specs.Rounding.{half_up}
use Rattle.exact.specs.Lines.{straight}
use Rattle.exact.specs.Limits.{Within}
use Rattle.exact.proofs.Limits.{within_more}
use Rattle.recording.specs.declared.sample.Sample.{Sample}
use Rattle.disturbance.specs.declared.direction.Direction.{Direction}
use Rattle.figure.specs.declared.point.Point.{Point}
use Rattle.figure.specs.Points.{turned, course}
use Rattle.figure.specs.Steps.{Weights}
use Rattle.response.specs.declared.group.Window.{Window}
use Rattle.delivery.specs.declared.basis.Basis.{Basis}
use Rattle.delivery.specs.Limits.{Tame, BeginsBy, widest_area, widest_response, widest_strip}
use Rattle.delivery.specs.Areas.{area_of, compensated_z}
use Rattle.delivery.proofs.Courses.{Usable, opens, passed_all}
use Rattle.delivery.proofs.Held.{Held, held, HeldSum, held_sum}
use Rattle.delivery.proofs.Summing.{strip_within}
use Rattle.delivery.proofs.Weighing.{compensated_within}
use Rattle.delivery.proofs.Walk.{Walk, Here}
use Rattle.delivery.proofs.Walk as walk

-- a strip is held, and the sum with it
strip_held : {v w s : ℤ} {k : ℕ} → k < 2 ^ 32 → Within widest_response v → Within widest_response w → s ≡ (v +ℤ w) *ℤ pos k → to_z w128 (of_z w128 s) ≡ (v +ℤ w) *ℤ pos k
strip_held {v} {w} {s} {k} lt h h' e = (held {A = widest_strip * k} (omega arith) e (subst (Within (widest_strip * k)) (sym e) (strip_within v w k h h'))).is

-- what the value of a line at a time asks for
abbrev Spans : ℕ → ℤ → ℕ → ℤ → ℕ → Type 0
Spans t v s w u = (t < s) × ((t ≤ u) × ((u ≤ s) × (Within widest_response v × Within widest_response w)))

-- the walk along the compensated response of a record, from a window's start to its end
pub record Pace (weight : Weights) (basis : Basis) (d : Direction) (xs : List Sample) (w : Window) (i t1 : ℕ) (v1 sum : ℤ) : Type 0 where
  pub forward : w.start < w.end
  pub small : w.end < 2 ^ 32
  pub walked : Walk (compensated_z weight basis) (course d xs) w.start w.end i t1 v1 sum

pub start : {weight : Weights} {basis : Basis} {d : Direction} {xs : List Sample} {w : Window} → w.start < w.end → w.end < 2 ^ 32 → Usable (course d xs) → BeginsBy (λ p. p.time) w.start (course d xs) → Pace weight basis d xs w 0 0 (pos 0) (pos 0)
start {weight} {basis} {d} {xs} {w} lt small u h = record {
  forward = lt;
  small = small;
  walked = walk.start _ (course d xs) _ _ lt u.rises (All-weaker Tame _ (λ p k. compensated_within weight basis p k) (course d xs) u.tame) h;
}

module _ {weight : Weights} {basis : Basis} {d : Direction} {xs : List Sample} {w : Window} {i t1 : ℕ} {v1 sum : ℤ} (pace : Pace weight basis d xs w i t1 v1 sum) where
  -- the next point is p, and r is what `compensated` answers
  pub here : {p : Point} {r : ℤ} → i < length xs → (x : Sample) → p ≡ turned d (get_or xs i x) → r ≡ compensated_z weight basis p → Within widest_response r → Here (compensated_z weight basis) (course d xs) w.start w.end i t1 v1 sum p (to_z w128 (of_z w128 r))
  here {p} lt x e f small = let h = held (omega arith) f small in record { forward = pace.forward; walked = pace.walked; next = opens d xs i lt x p e; value = h.is; within = h.within }

  pub on : {i' t1' : ℕ} {v1' sum' : ℤ} → Walk (compensated_z weight basis) (course d xs) w.start w.end i' t1' v1' sum' → Pace weight basis d xs w i' t1' v1' sum'
  on k = record { forward = pace.forward; small = pace.small; walked = k }

  -- after the last sample; t0 is the later of the start and t1, and s is the strip up to the end
  module _ (le : length xs ≤ i) {t0 : ℕ} (et : t0 ≡ max w.start t1) where
    pub end_upto : t0 ≤ w.end
    end_upto = walk.end_upto pace.walked (passed_all d xs i le) et

    pub sum_end : {s : ℤ} → s ≡ (v1 +ℤ v1) *ℤ pos (w.end - t0) → HeldSum (widest_strip * (w.end - w.start)) sum s (area_of (compensated_z weight basis) (course d xs) w.start w.end)
    sum_end es = let small = pace.small in
        held_sum (omega arith) (strip_held (omega arith) pace.walked.onto.within pace.walked.onto.within es) (walk.done pace.walked (passed_all d xs i le) et) (walk.done_within pace.walked (passed_all d xs i le) et)

module _ {z : Point → ℤ} {ps : List Point} {a b i t1 : ℕ} {v1 sum : ℤ} {p : Point} {v : ℤ} (h : Here z ps a b i t1 v1 sum p v) where
  -- p is after the start; t0 is the later of a and t1
  module _ (lo : a < p.time) {t0 : ℕ} (et : t0 ≡ max a t1) where
    pub spans : Spans t1 v1 p.time v t0
    spans = let k = walk.ahead h lo et in (omega arith, (omega arith, (omega arith, (h.walked.onto.within, h.within))))

    pub spans_end : b ≤ p.time → Spans t1 v1 p.time v b
    spans_end hi = let k = walk.ahead h lo et in (omega arith, (h.walked.onto.past, (hi, (h.walked.onto.within, h.within))))

    -- y holds the line's value at t0
    module _ {y : ℤ} (ey : y ≡ half_up (straight t1 (whole v1) p.time (whole v) t0)) (wy : (A : ℕ) → Within A v1 → Within A v → Within A y) where
      pub first : Held widest_response y (half_up (straight t1 (whole v1) p.time (whole v) t0))
      first = held (omega arith) ey (wy widest_response h.walked.onto.within h.within)

      -- p is before the end, and s is the strip up to it
      module _ (small : b < 2 ^ 32) (hi : p.time < b) {s : ℤ} (es : s ≡ (to_z w128 (of_z w128 y) +ℤ v) *ℤ pos (p.time - t0)) where
        next : Walk z ps a b (i + 1) p.time v (sum +ℤ (to_z w128 (of_z w128 y) +ℤ v) *ℤ pos (p.time - t0))
        next = walk.turn h lo et first.is hi

        pub sum_more : HeldSum widest_area sum s (sum +ℤ (to_z w128 (of_z w128 y) +ℤ v) *ℤ pos (p.time - t0))
        sum_more = let u = next.summed.upto in held_sum (omega arith) (strip_held (omega arith) first.within h.within es) refl (within_more (omega arith) next.summed.limit)

        pub again : Walk z ps a b (i + 1) p.time v (to_z w128 (of_z w128 (sum +ℤ to_z w128 (of_z w128 s))))
        again = subst (λ (x : ℤ). Walk z ps a b (i + 1) p.time v x) (sym sum_more.is) next

      -- p is at the end or after it, and x holds the line's value there
      module _ (hi : b ≤ p.time) {x : ℤ} (ex : x ≡ half_up (straight t1 (whole v1) p.time (whole v) b)) (wx : (A : ℕ) → Within A v1 → Within A v → Within A x) where
        pub last : Held widest_response x (half_up (straight t1 (whole v1) p.time (whole v) b))
        last = held (omega arith) ex (wx widest_response h.walked.onto.within h.within)

        -- s is the strip up to the end
        pub sum_last : b < 2 ^ 32 → {s : ℤ} → s ≡ (to_z w128 (of_z w128 y) +ℤ to_z w128 (of_z w128 x)) *ℤ pos (b - t0) → HeldSum (widest_strip * (b - a)) sum s (area_of z ps a b)
        sum_last small es = held_sum (omega arith) (strip_held (omega arith) first.within last.within es) (walk.stop h lo et first.is hi last.is) (walk.stop_within h lo et first.is hi last.is last.within)
