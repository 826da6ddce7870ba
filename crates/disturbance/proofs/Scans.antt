-- The line, stretch by stretch.
use Rattle.std.proofs.Common.{◌≡◌, ℕ, ◌+◌, ◌-◌, ◌<◌, ◌≤◌, max, Bool, List, length, Some, None, Option, subst, inl, inr, arith}
use Rattle.std.proofs.lemmas.Bool.{cases_lt, cases_order}
use Rattle.exact.specs.First.{First, FirstOrNone}
use Rattle.exact.proofs.First.{answer_as}
use Rattle.recording.specs.declared.sample.Sample.{Sample}
use Rattle.disturbance.specs.declared.direction.Direction.{Direction}
use Rattle.disturbance.specs.Trace.{at, Sound}
use Rattle.disturbance.specs.Line.{LineAt}
use Rattle.disturbance.specs.Crossing.{Reached}
use Rattle.disturbance.specs.Passing.{height, goal, Passes, PassedBetween, PassedFrom}
use Rattle.disturbance.specs.declared.stretch.Stretch.{Stretch}
use Rattle.disturbance.specs.Stretches.{FirstFound}
use Rattle.disturbance.proofs.Times.{time_up}
use Rattle.disturbance.proofs.Stretches.{found_as}

module _ (xs : List Sample) (s : Sound xs) (P : Sample → Sample → ℕ → Type 0) where
  -- a time lies between one pair of neighbours only
  pub line_place : (u k : ℕ) (l : LineAt P xs u) → k < length xs → (at xs (k - 1)).time < u → u ≤ (at xs k).time → l.place ≡ k
  line_place u k l lt after until =
      elim (cases_order l.place k) [
        | inl same ↦ same
        | inr other ↦ elim other [
          | inl less ↦ absurd (omega (arith, time_up xs s l.place (k - 1) (omega arith) (omega arith), l.until))
          | inr more ↦ absurd (omega (arith, time_up xs s k (l.place - 1) (omega arith) (omega (arith, l.there)), l.after))
        ]
      ]

  pub line_here : (u k : ℕ) → LineAt P xs u → k < length xs → (at xs (k - 1)).time < u → u ≤ (at xs k).time → P (at xs (k - 1)) (at xs k) u
  line_here u k l lt after until = subst (λ n. P (at xs (n - 1)) (at xs n) u) (line_place u k l lt after until) l.holds

-- between two samples: the line, as a slope of heights, has reached the goal at the time u
abbrev pub ReachedBetween : Direction → ℕ → Bool → Sample → Sample → ℕ → ℕ → Type 0
ReachedBetween d level above a b from u = Reached a.time (height d a.frequency) b.time (height d b.frequency) (goal level above (b.time - a.time)) from u

-- the first time that it has is the first at which its height has passed the level
pub between_as : (d : Direction) (level : ℕ) (above : Bool) (a b : Sample) (from start : ℕ) → start ≡ max from (a.time + 1)
    → (o : Option ℕ) → FirstOrNone (ReachedBetween d level above a b start) o → FirstOrNone (PassedBetween d level above a b from) o
between_as d level above a b from start is o h =
    answer_as (ReachedBetween d level above a b start) (PassedBetween d level above a b from) o
    (λ u r. (omega (arith, r.after), omega (arith, r.after), r.until, r.level))
    (λ u p. record { after = omega (arith, p.0, p.1); until = p.2; level = p.3 })
    h

-- the first on a stretch is the first on the line
module _ (xs : List Sample) (s : Sound xs) (d : Direction) (level : ℕ) (above : Bool) (from : ℕ) where
  abbrev Passed : Sample → Sample → Option ℕ → Type 0
  Passed a b o = FirstOrNone (PassedBetween d level above a b from) o

  pub on_line : {finds : Stretch → Option ℕ → Type 0} → ((p : Stretch) (o : Option ℕ) → finds p o → Passed p.before p.after o)
      → (o : Option ℕ) → FirstFound finds xs o → FirstOrNone (PassedFrom xs d level above from) o
  on_line says None none = λ u h. let l = h.1 in found_as Passed says (none l.place l.later l.there) u (h.0, l.after, l.until, l.holds)
  on_line says (Some t) f =
      let k = f.place in
      let first : First (PassedBetween d level above (at xs (k - 1)) (at xs k) from) t = found_as Passed says f.found in
      record {
        holds = (first.holds.0, record { place = k; later = f.later; there = f.there; after = first.holds.1; until = first.holds.2; holds = first.holds.3 });
        earlier = λ u less h.
            let l = h.1 in
            elim (cases_lt l.place k) [
              | inl before ↦ found_as Passed says (f.earlier l.place l.later before) u (h.0, l.after, l.until, l.holds)
              | inr not ↦
                  let after : (at xs (k - 1)).time < u = omega (arith, l.after, time_up xs s (k - 1) (l.place - 1) (omega arith) (omega (arith, l.there))) in
                  let until : u ≤ (at xs k).time = omega (arith, first.holds.2) in
                  first.earlier u less (h.0, after, until, line_here xs s (Passes d level above) u k l f.there after until)
            ];
      }
