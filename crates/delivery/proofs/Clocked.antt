-- A window that is neither empty nor beyond the samples: its ends are times of the clock, and the record begins by its start.
use Rattle.std.proofs.Common.{◌≡◌, ℕ, ◌-◌, ◌<◌, ◌≤◌, List, [], ◌∷◌, length, Option, pos, ◌≤ℤ◌, sym, subst, inl, arith}
use borrow.Author.Differences.{ints}
use Rattle.std.proofs.lemmas.Int.{by_lt_z}
use Rattle.recording.specs.declared.sample.Sample.{Sample}
use Rattle.recording.specs.Samples.{latest}
use Rattle.disturbance.specs.declared.direction.Direction.{Direction}
use Rattle.disturbance.specs.Trace.{at, Sound}
use Rattle.response.specs.declared.group.Window.{Window}
use Rattle.figure.specs.declared.span.Span.{Span}
use Rattle.figure.specs.declared.point.Point.{Point}
use Rattle.figure.specs.Points.{course}
use Rattle.figure.specs.Steps.{used_points}
use Rattle.figure.specs.Windows.{Empty, on_clock, Proper}
use Rattle.figure.specs.Defects.{Beyond}
use Rattle.figure.proofs.Standing.{stands, stands_proper}
use Rattle.delivery.specs.Limits.{BeginsBy}
use Rattle.delivery.proofs.Reaching.{before_first, after_last}
use Rattle.delivery.proofs.Sounds.{usable}
use Rattle.delivery.proofs.Using.{begins_used}

some_sample : (xs : List Sample) (w : Span) → (Empty w → ⊥) → (Beyond xs w → ⊥) → 0 < length xs
some_sample [] w full within = absurd (within (full, inl tt))
some_sample (s ∷ xs) w full within = omega arith

first_begins : (d : Direction) (xs : List Sample) (t : ℕ) → (at xs 0).time ≤ t → BeginsBy (λ p. p.time) t (course d xs)
first_begins d [] t le = tt
first_begins d (s ∷ xs) t le = le

module _ (xs : List Sample) (sound : Sound xs) (w : Span) (full : Empty w → ⊥) (within : Beyond xs w → ⊥) where
  from_first : pos (at xs 0).time ≤ℤ w.start
  from_first = by_lt_z w.start (pos (at xs 0).time) (λ less. absurd (within (before_first xs sound w full less))) (λ le. le)

  to_last : w.end ≤ℤ pos (at xs (length xs - 1)).time
  to_last = by_lt_z (pos (at xs (length xs - 1)).time) w.end (λ less. absurd (within (after_last xs sound w full less))) (λ le. le)

  -- both ends are times of the clock
  pub on_clock_lem : (pos 0 ≤ℤ w.start) × ((w.start ≤ℤ pos latest) × ((pos 0 ≤ℤ w.end) × (w.end ≤ℤ pos latest)))
  on_clock_lem =
      let some = some_sample xs w full within in
      let latest : (at xs (length xs - 1)).time ≤ latest = (sound.1 (length xs - 1) (omega arith)).0 in
      let rises = (stands xs w full within).rises in
      let a = from_first in
      let b = to_last in
      (omega (arith, ints), (omega (arith, ints), (omega (arith, ints), omega (arith, ints))))

  -- what the value of the window asks of the points that are used
  pub valued : (d : Direction) (recovery : Option ℕ) (v : Window) → v ≡ on_clock w → w.multiplier ≤ 2 → (used : List Point) → used ≡ used_points recovery (course d xs) → Proper v × BeginsBy (λ p. p.time) v.start used
  valued d recovery v e times used u =
      let first : (at xs 0).time ≤ (on_clock w).start = omega (arith, ints, from_first, (stands xs w full within).starts) in
      let begins = begins_used recovery (on_clock w).start (course d xs) (usable d xs sound).rises (first_begins d xs (on_clock w).start first) in (
        subst Proper (sym e) (stands_proper w (stands xs w full within) times),
        subst (λ (ps : List Point). BeginsBy (λ (p : Point). p.time) v.start ps) (sym u) (subst (λ (k : Window). BeginsBy (λ (p : Point). p.time) k.start (used_points recovery (course d xs))) (sym e) begins),
      )
