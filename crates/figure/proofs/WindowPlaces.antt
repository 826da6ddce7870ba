-- Which points are used and lie inside, and where windows lie.
use Rattle.std.proofs.Common.{◌≡◌, ℕ, ◌+◌, ◌<◌, ◌≤◌, Bool, true, false, cond, List, [], ◌∷◌, ◌++◌, ℤ, pos, ◌≤ℤ◌, ◌<ℤ◌, Some, None, Option, sym, refl, ap, ◌∙◌, subst, inl, inr, arith}
use lib.Signed.{le_z}
use borrow.Author.Differences.{up, down, ints}
use Rattle.std.specs.List.{AllByRecursion}
use Rattle.std.proofs.lemmas.Int.{clamps}
use Rattle.std.proofs.lemmas.Bool.{cases_lt}
use Rattle.exact.proofs.Tests.{pick, skip}
use Rattle.response.specs.declared.group.Window.{Window}
use Rattle.figure.specs.declared.point.Point.{Point}
use Rattle.figure.specs.declared.span.Span.{Span}
use Rattle.figure.specs.Points.{After, Rises}
use Rattle.figure.specs.Steps.{used_points, inside}
use Rattle.figure.specs.Windows.{placed, Empty, on_clock, unless_empty}
use Rattle.figure.specs.Laws.{RecoveredBy}
use Rattle.figure.specs.WindowLaws.{ExactlyIf, CutOut, CutOff, UsedPoints, start_at, Measured, IsPlaced, Begins, PlacesOfWindows}
use Rattle.figure.proofs.Standing.{on_the_clock}
use Rattle.figure.proofs.Meanings.{empty_by_recovery}
use Rattle.figure.proofs.WindowAreas.{in_between, not_after_start, not_before_end, none_later}

-- ---- the points that are used
all_used : (ps : List Point) → used_points None ps ≡ ps
all_used [] = refl
all_used (p ∷ ps) = ap (λ (ks : List Point). p ∷ ks) (all_used ps)

all_from : (u l : ℕ) (ps : List Point) → After l ps → u ≤ l → AllByRecursion (λ p. u ≤ p.time) ps
all_from u l [] h le = tt
all_from u l (p ∷ ps) h le = (omega (arith, h.0), all_from u p.time ps h.1 (omega (arith, h.0)))

-- u is the time of recovery
module _ (u : ℕ) where
  none_used : (l : ℕ) (ps : List Point) → After l ps → u ≤ l → used_points (Some u) ps ≡ []
  none_used l [] h le = refl
  none_used l (p ∷ ps) h le = skip p.time u _ _ (omega (arith, h.0)) ∙ none_used p.time ps h.1 (omega (arith, h.0))

  cut_after : (l : ℕ) (ps : List Point) → After l ps → CutOff ps (used_points (Some u) ps) u
  cut_after l [] h = record { after = []; joined = refl; strictly_before = tt; late = tt }
  cut_after l (p ∷ ps) h =
      elim (cases_lt p.time u) [
        | inl less ↦
            let rest = cut_after p.time ps h.1 in
            subst (λ (ks : List Point). CutOff (p ∷ ps) ks u) (sym (pick p.time u _ _ less))
            (record { after = rest.after; joined = ap (λ (ks : List Point). p ∷ ks) rest.joined; strictly_before = (less, rest.strictly_before); late = rest.late })
        | inr le ↦
            subst (λ (ks : List Point). CutOff (p ∷ ps) ks u) (sym (skip p.time u _ _ le ∙ none_used p.time ps h.1 le))
            (record { after = p ∷ ps; joined = refl; strictly_before = tt; late = (le, all_from u p.time ps h.1 le) })
      ]

  those_before : (ps : List Point) → Rises ps → CutOff ps (used_points (Some u) ps) u
  those_before [] h = record { after = []; joined = refl; strictly_before = tt; late = tt }
  those_before (p ∷ ps) h =
      elim (cases_lt p.time u) [
        | inl less ↦
            let rest = cut_after p.time ps h in
            subst (λ (ks : List Point). CutOff (p ∷ ps) ks u) (sym (pick p.time u _ _ less))
            (record { after = rest.after; joined = ap (λ (ks : List Point). p ∷ ks) rest.joined; strictly_before = (less, rest.strictly_before); late = rest.late })
        | inr le ↦
            subst (λ (ks : List Point). CutOff (p ∷ ps) ks u) (sym (skip p.time u _ _ le ∙ none_used p.time ps h le))
            (record { after = p ∷ ps; joined = refl; strictly_before = tt; late = (le, all_from u p.time ps h le) })
      ]

-- ---- the points inside a window
module _ (s e : ℕ) (ordered : s ≤ e) where
  -- of points that are all after the start
  record From (ps kept : List Point) : Type 0 where
    after : List Point
    joined : ps ≡ kept ++ after
    strictly_between : AllByRecursion (λ p. (s < p.time) × (p.time < e)) kept
    late : AllByRecursion (λ p. e ≤ p.time) after

  from_start : (l : ℕ) (ps : List Point) → After l ps → s ≤ l → From ps (inside s e ps)
  from_start l [] h le = record { after = []; joined = refl; strictly_between = tt; late = tt }
  from_start l (p ∷ ps) h le =
      elim (cases_lt p.time e) [
        | inl less ↦
            let rest = from_start p.time ps h.1 (omega (arith, h.0)) in
            let lo : s < p.time = omega (arith, h.0) in
            subst (From (p ∷ ps)) (sym (in_between s e p ps lo less))
            (record { after = rest.after; joined = ap (λ (ks : List Point). p ∷ ks) rest.joined; strictly_between = ((lo, less), rest.strictly_between); late = rest.late })
        | inr le' ↦
            subst (From (p ∷ ps)) (sym (not_before_end s e p ps le' ∙ none_later s e p.time ps h.1 le'))
            (record { after = p ∷ ps; joined = refl; strictly_between = tt; late = (le', all_from e p.time ps h.1 le') })
      ]

  whole_cut : (l : ℕ) (ps : List Point) → After l ps → s ≤ l → CutOut ps (inside s e ps) s e
  whole_cut l ps h le = let f = from_start l ps h le in
      record { before = []; after = f.after; joined = f.joined; early = tt; strictly_between = f.strictly_between; late = f.late }

  passed : (p : Point) (ps : List Point) → p.time ≤ s → CutOut ps (inside s e ps) s e → CutOut (p ∷ ps) (inside s e (p ∷ ps)) s e
  passed p ps le rest =
      subst (λ (ks : List Point). CutOut (p ∷ ps) ks s e) (sym (not_after_start s e p ps le))
      (record { before = p ∷ rest.before; after = rest.after; joined = ap (λ (ks : List Point). p ∷ ks) rest.joined; early = (le, rest.early); strictly_between = rest.strictly_between; late = rest.late })

  cut_out_after : (l : ℕ) (ps : List Point) → After l ps → CutOut ps (inside s e ps) s e
  cut_out_after l [] h = record { before = []; after = []; joined = refl; early = tt; strictly_between = tt; late = tt }
  cut_out_after l (p ∷ ps) h =
      elim (cases_lt s p.time) [
        | inl lo ↦ whole_cut s (p ∷ ps) (lo, h.1) (omega arith)
        | inr le ↦ passed p ps le (cut_out_after p.time ps h.1)
      ]

  those_inside : (ps : List Point) → Rises ps → CutOut ps (inside s e ps) s e
  those_inside [] h = record { before = []; after = []; joined = refl; early = tt; strictly_between = tt; late = tt }
  those_inside (p ∷ ps) h =
      elim (cases_lt s p.time) [
        | inl lo ↦ whole_cut s (p ∷ ps) (lo, h) (omega arith)
        | inr le ↦ passed p ps le (cut_out_after p.time ps h)
      ]

pub used_points_are : UsedPoints
used_points_are = record { all_without_recovery = all_used; those_before_recovery = λ u ps h. those_before u ps h; of_case_without_recovery = λ c e. subst (λ (o : Option ℕ). used_points o c.points ≡ c.points) (sym e) (all_used c.points); of_case = λ c u e h. subst (λ (o : Option ℕ). CutOff c.points (used_points o c.points) u) (sym e) (those_before u c.points h); those_strictly_inside = λ s e ps h le. those_inside s e le ps h }

-- ---- where windows lie
on_clock_measured : (T : ℕ) (shift : ℤ) (recovery : Option ℕ) (w : Window) (t : ℤ)
    → ExactlyIf (((placed T shift recovery w).start ≤ℤ t) × (t ≤ℤ (placed T shift recovery w).end)) (Measured T shift recovery w t)
on_clock_measured T shift None w t = (λ h. record { from_start = h.0; until_end = h.1; until_recovery = tt }, λ m. (m.from_start, m.until_end))
on_clock_measured T shift (Some u) w t = (
  λ h. record { from_start = h.0; until_end = omega (arith, ints, clamps, h.1); until_recovery = omega (arith, ints, clamps, h.1) },
  λ m. (m.from_start, omega (arith, ints, clamps, m.until_end, m.until_recovery)),
)

module _ (T : ℕ) (shift : ℤ) (recovery : Option ℕ) (w : Window) where
  abbrev s : Span
  s = placed T shift recovery w

  module _ (b : Begins T shift recovery w) where
    full : Empty s → ⊥
    full empty = b.not_recovered (empty_by_recovery.empty T shift recovery w b.rises empty)

    less : s.start <ℤ s.end
    less = elim (cases_lt (up s.start + down s.end) (up s.end + down s.start)) [ inl lt ↦ omega (arith, ints) | inr le ↦ absurd (full (omega (arith, ints))) ]

    start_is : pos (up s.start) ≡ s.start
    start_is = on_the_clock s.start (λ h. omega (arith, ints, h, b.on_clock))

    end_is : pos (up s.end) ≡ s.end
    end_is = on_the_clock s.end (λ h. omega (arith, ints, h, b.on_clock, less))

    is_placed : IsPlaced T shift recovery w (on_clock s)
    is_placed = record {
      times = λ t. (
        λ h. (on_clock_measured T shift recovery w (pos t)).0 (omega (arith, ints, h.0, start_is), omega (arith, ints, h.1, end_is)),
        λ m. let k = (on_clock_measured T shift recovery w (pos t)).1 m in (omega (arith, ints, k.0, start_is), omega (arith, ints, k.1, end_is)),
      );
      multiplier = refl;
    }

    there : (full : Bool) → le_z s.end s.start ≡ full → (v : Window) × (cond full None (Some (on_clock s)) ≡ Some v) × IsPlaced T shift recovery w v
    there true e = absurd (full (omega (arith, ints)))
    there false e = (on_clock s, refl, is_placed)

    is_there : (v : Window) × (unless_empty s ≡ Some v) × IsPlaced T shift recovery w v
    is_there = there (le_z s.end s.start) refl

  module _ (rises : w.start < w.end) where
    none_by : (b : Bool) → le_z s.end s.start ≡ b → ExactlyIf (cond b None (Some (on_clock s)) ≡ None) (RecoveredBy recovery (start_at T shift w))
    none_by true e = (λ _. empty_by_recovery.empty T shift recovery w rises (omega (arith, ints)), λ _. refl)
    none_by false e = (λ h. absurd (cc), λ h. let empty = empty_by_recovery.recovered T shift recovery w h in absurd (omega (arith, ints)))

    none_left : ExactlyIf (unless_empty s ≡ None) (RecoveredBy recovery (start_at T shift w))
    none_left = none_by (le_z s.end s.start) refl

pub places_of_windows : PlacesOfWindows
places_of_windows = record {
  on_the_clock = on_clock_measured;
  first_of_case = λ xs d a recovery shift b. is_placed d.time shift recovery a.row.first b;
  second_of_case = λ xs d a recovery shift b. is_there d.time shift recovery a.row.second b;
  no_second = λ xs d a recovery shift rises. none_left d.time shift recovery a.row.second rises;
}
