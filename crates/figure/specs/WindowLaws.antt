-- What holds of windows, of their ends and values, and of what bars a delivery for them, in words of the subject.
use Rattle.std.specs.Prelude.{◌≡◌, ℕ, ◌+◌, ◌-◌, ◌<◌, ◌≤◌, ◌⊎◌, List, [], ◌∷◌, ◌++◌, length, ℤ, pos, ◌+ℤ◌, ◌≤ℤ◌, ◌<ℤ◌, Some, None, Option}
use Rattle.std.specs.List.{AllByRecursion}
use Rattle.exact.specs.Fractions.{Fraction, whole, ◌⊕◌, ◌·◌, ◌÷◌, Equal}
use Rattle.exact.specs.Averages.{evenly}
use Rattle.recording.specs.declared.refusal.Reason.TheVariants.{EmptyFirstWindow, WindowOutside, WideGap}
use Rattle.recording.specs.declared.sample.Sample.{Sample}
use Rattle.recording.specs.Refusals.{refusal}
use Rattle.disturbance.specs.Trace.{at, Rising}
use Rattle.response.specs.declared.group.Window.{Window}
use Rattle.disturbance.specs.declared.disturbance.Disturbance.{Disturbance}
use Rattle.figure.specs.declared.point.Point.{Point}
use Rattle.figure.specs.declared.span.Span.{Span}
use Rattle.figure.specs.Points.{Rises}
use Rattle.figure.specs.Steps.{Rounding, Case, to_half_up, unrounded, used_points, inside, used, compensated, at_end, value}
use Rattle.figure.specs.Windows.{placed, Empty}
use Rattle.figure.specs.Asked.{Asked, Times, shift_in, case_of}
use Rattle.figure.specs.Defects.{Shares}
use Rattle.figure.specs.Barred.{Bars}
use Rattle.figure.specs.Laws.{RecoveredBy}

-- P holds exactly if Q does
abbrev pub ExactlyIf : Type 0 → Type 0 → Type 0
ExactlyIf P Q = (P → Q) × (Q → P)

-- ---- the points that are used, and those between a window's ends

-- a list of points is those at or before a start, then those that are kept, strictly between the start and an end,
-- then those at or after the end
pub record CutOut (points kept : List Point) (start end : ℕ) : Type 0 where
  pub before : List Point
  pub after : List Point
  pub joined : points ≡ before ++ kept ++ after
  pub early : AllByRecursion (λ p. p.time ≤ start) before
  pub strictly_between : AllByRecursion (λ p. (start < p.time) × (p.time < end)) kept
  pub late : AllByRecursion (λ p. end ≤ p.time) after

-- a list of points is those that are kept, strictly before recovery, then those at or after it
pub record CutOff (points kept : List Point) (recovery : ℕ) : Type 0 where
  pub after : List Point
  pub joined : points ≡ kept ++ after
  pub strictly_before : AllByRecursion (λ p. p.time < recovery) kept
  pub late : AllByRecursion (λ p. recovery ≤ p.time) after

pub record UsedPoints : Type 0 where
  -- without recovery every point is used, once and in order
  pub all_without_recovery : (points : List Point) → used_points None points ≡ points
  -- with recovery those strictly before it are, once and in order, and no other
  pub those_before_recovery : (recovery : ℕ) (points : List Point) → Rises points → CutOff points (used_points (Some recovery) points) recovery
  -- the points that a case uses are those of its record, by its recovery
  pub of_case_without_recovery : (c : Case) → c.recovery ≡ None → used c ≡ c.points
  pub of_case : (c : Case) (recovery : ℕ) → c.recovery ≡ Some recovery → Rises c.points → CutOff c.points (used c) recovery
  -- between the ends of a window lie the points strictly inside, once and in order, and no other
  pub those_strictly_inside : (start end : ℕ) (points : List Point) → Rises points → start ≤ end → CutOut points (inside start end points) start end

-- ---- roundings

-- a rounding goes by the value of a fraction, however it is written; what it has rounded it leaves as it is, and whole numbers too
pub record Steady (r : Rounding) : Type 0 where
  pub by_value : (x y : Fraction) → Equal x y → Equal (r x) (r y)
  pub once : (x : Fraction) → Equal (r (r x)) (r x)
  pub keeps_whole : (z : ℤ) → Equal (r (whole z)) (whole z)

-- the laws of ends and values hold for half-up and for leaving it out
pub record SteadyRoundings : Type 0 where
  pub half_up : Steady to_half_up
  pub left_out : Steady unrounded

-- ---- the response at a time, in a case

-- x is on the straight line from v at t to w at s, at the time u: each end counts by the time to the other
abbrev pub OnLine : ℕ → Fraction → ℕ → Fraction → ℕ → Fraction → Type 0
OnLine t v s w u x = Equal (x · (s - t)) (v · (s - u) ⊕ w · (u - t))

pub record EndsOfWindows : Type 0 where
  -- at a used point's own time it is the response of that point
  pub at_a_point : (r : Rounding) (c : Case) (earlier : List Point) (p : Point) (later : List Point)
      → Steady r → Rises c.points → used c ≡ earlier ++ p ∷ later → Equal (at_end r c p.time) (compensated r c p)
  -- between two neighbouring used points it is on the straight line between their responses
  pub between_neighbours : (r : Rounding) (c : Case) (earlier : List Point) (p q : Point) (later : List Point) (t : ℕ)
      → Steady r → Rises c.points → used c ≡ earlier ++ p ∷ q ∷ later → p.time ≤ t → t ≤ q.time
      → (x : Fraction) × OnLine p.time (compensated r c p) q.time (compensated r c q) t x × Equal (at_end r c t) (r x)
  -- from the last used point on it is level at the response of that point
  pub level_after_last : (r : Rounding) (c : Case) (earlier : List Point) (last : Point) (t : ℕ)
      → Steady r → Rises c.points → used c ≡ earlier ++ last ∷ [] → last.time ≤ t → Equal (at_end r c t) (compensated r c last)

-- ---- the value of a window, in a case

-- a window by its parts
abbrev pub window : ℕ → ℕ → ℕ → Window
window start end multiplier = record { start = start; end = end; multiplier = multiplier }

-- the responses of points change evenly: they are b at the time 0, and change by k each millisecond
abbrev pub ChangeEvenly : Rounding → Case → ℤ → ℤ → List Point → Type 0
ChangeEvenly r c b k points = AllByRecursion (λ p. Equal (compensated r c p) (evenly b k p.time)) points

-- the value of a window is its multiplier times x, in watts
abbrev pub IsTimes : Rounding → Case → Window → Fraction → Type 0
IsTimes r c w x = Equal (value r c w) (r (x · w.multiplier ÷ 100))

pub record ValuesOfWindows : Type 0 where
  -- of a window between two neighbouring used points it is the multiplier times the middle of the responses at its ends
  pub between_neighbours : (r : Rounding) (c : Case) (w : Window) (earlier : List Point) (p q : Point) (later : List Point)
      → Steady r → Rises c.points → used c ≡ earlier ++ p ∷ q ∷ later
      → p.time ≤ w.start → w.start < w.end → w.end ≤ q.time
      → IsTimes r c w ((at_end r c w.start ⊕ at_end r c w.end) ÷ 2)
  -- of a window over which the responses change evenly, from a used point at or before its start to one at or after its end,
  -- it is the multiplier times the middle of what they are at its ends, wherever the points between stand
  pub even_response : (r : Rounding) (c : Case) (w : Window) (b k : ℤ) (earlier : List Point) (first : Point) (between : List Point)
      (last : Point) (later : List Point)
      → Steady r → Rises c.points → used c ≡ earlier ++ (first ∷ between ++ last ∷ later)
      → ChangeEvenly r c b k (first ∷ between ++ last ∷ [])
      → first.time ≤ w.start → w.start < w.end → w.end ≤ last.time
      → IsTimes r c w ((evenly b k w.start ⊕ evenly b k w.end) ÷ 2)
  -- of a window that begins at or after the last used point it is the multiplier times the response of that point
  pub after_last : (r : Rounding) (c : Case) (w : Window) (earlier : List Point) (last : Point)
      → Steady r → Rises c.points → used c ≡ earlier ++ last ∷ [] → last.time ≤ w.start → w.start < w.end
      → IsTimes r c w (compensated r c last)
  -- windows that adjoin add up, each weighed by its length, wherever they meet: at a point, between two, or after the last
  pub adjoining : (c : Case) (start middle end multiplier : ℕ) (first : Point) (later : List Point) → Rises c.points
      → used c ≡ first ∷ later → first.time ≤ start → start < middle → middle < end
      → Equal (value unrounded c (window start end multiplier) · (end - start))
      (value unrounded c (window start middle multiplier) · (middle - start)
      ⊕ value unrounded c (window middle end multiplier) · (end - middle))
  -- a window that counts so many times has so many times the value of one that counts once
  pub multiplied : (c : Case) (start end multiplier : ℕ)
      → Equal (value unrounded c (window start end multiplier)) (value unrounded c (window start end 1) · multiplier)

-- ---- where the windows of what is asked lie

-- where a window of a row starts and ends, counted from T and the shift
abbrev pub start_at : ℕ → ℤ → Window → ℤ
start_at T shift w = pos T +ℤ shift +ℤ pos w.start

abbrev pub end_at : ℕ → ℤ → Window → ℤ
end_at T shift w = pos T +ℤ shift +ℤ pos w.end

-- the time t is not after any recovery
abbrev pub NotAfter : Option ℕ → ℤ → Type 0
NotAfter None t = Unit {0}
NotAfter (Some recovery) t = t ≤ℤ pos recovery

-- the time t lies in the window w, counted from T and the shift, and not after any recovery
pub record Measured (T : ℕ) (shift : ℤ) (recovery : Option ℕ) (w : Window) (t : ℤ) : Type 0 where
  pub from_start : start_at T shift w ≤ℤ t
  pub until_end : t ≤ℤ end_at T shift w
  pub until_recovery : NotAfter recovery t

-- the window v of a case is the window w of a row: it lies at the same times, and counts as often
pub record IsPlaced (T : ℕ) (shift : ℤ) (recovery : Option ℕ) (w v : Window) : Type 0 where
  pub times : (t : ℕ) → ExactlyIf ((v.start ≤ t) × (t ≤ v.end)) (Measured T shift recovery w (pos t))
  pub multiplier : v.multiplier ≡ w.multiplier

-- the window w of a row starts before it ends; it begins on the clock, and recovery is not at or before that
pub record Begins (T : ℕ) (shift : ℤ) (recovery : Option ℕ) (w : Window) : Type 0 where
  pub rises : w.start < w.end
  pub on_clock : pos 0 ≤ℤ start_at T shift w
  pub not_recovered : RecoveredBy recovery (start_at T shift w) → ⊥

pub record PlacesOfWindows : Type 0 where
  -- a window on the clock holds the times that lie in the row's window, counted from T and the shift, and not after recovery
  pub on_the_clock : (T : ℕ) (shift : ℤ) (recovery : Option ℕ) (w : Window) (t : ℤ)
      → ExactlyIf (((placed T shift recovery w).start ≤ℤ t) × (t ≤ℤ (placed T shift recovery w).end)) (Measured T shift recovery w t)
  -- the first window of a case is the first of the row
  pub first_of_case : (xs : List Sample) (d : Disturbance) (a : Asked) (recovery : Option ℕ) (shift : ℤ)
      → Begins d.time shift recovery a.row.first
      → IsPlaced d.time shift recovery a.row.first (case_of xs d a recovery shift).first
  -- the second window of a case is the second of the row
  pub second_of_case : (xs : List Sample) (d : Disturbance) (a : Asked) (recovery : Option ℕ) (shift : ℤ)
      → Begins d.time shift recovery a.row.second
      → (v : Window) × ((case_of xs d a recovery shift).second ≡ Some v)
      × IsPlaced d.time shift recovery a.row.second v
  -- there is no second window in a case exactly if recovery is at or before its start
  pub no_second : (xs : List Sample) (d : Disturbance) (a : Asked) (recovery : Option ℕ) (shift : ℤ)
      → a.row.second.start < a.row.second.end
      → ExactlyIf ((case_of xs d a recovery shift).second ≡ None) (RecoveredBy recovery (start_at d.time shift a.row.second))

-- ---- what bars a delivery for its windows

-- the recovery and the shift of what is asked
pub record HasShift (xs : List Sample) (d : Disturbance) (a : Asked) (recovery : Option ℕ) (shift : ℤ) : Type 0 where
  pub trigger_time : Option ℕ
  pub times : Times xs d a recovery trigger_time
  pub shifted : shift_in d a trigger_time ≡ Some shift

-- s is one of the two windows of what is asked, on the clock and cut at any recovery
pub record WindowOf (xs : List Sample) (d : Disturbance) (a : Asked) (recovery : Option ℕ) (s : Span) : Type 0 where
  pub shift : ℤ
  pub known : HasShift xs d a recovery shift
  pub either : (s ≡ placed d.time shift recovery a.row.first)
      ⊎ (s ≡ placed d.time shift recovery a.row.second)

pub record EmptyWindows : Type 0 where
  -- a delivery is barred for an empty first window exactly if recovery is at or before its start
  pub first_bars : (xs : List Sample) (d : Disturbance) (a : Asked) (recovery : Option ℕ) (shift : ℤ)
      → HasShift xs d a recovery shift → a.row.first.start < a.row.first.end
      → ExactlyIf (Bars xs d a (refusal EmptyFirstWindow 0 0)) (RecoveredBy recovery (start_at d.time shift a.row.first))
  -- recovery one millisecond after a window's start leaves a window of one millisecond
  pub one_millisecond_left : (T : ℕ) (shift : ℤ) (recovery : ℕ) (w : Window)
      → w.start < w.end → pos recovery ≡ start_at T shift w +ℤ pos 1
      → (placed T shift (Some recovery) w).end ≡ (placed T shift (Some recovery) w).start +ℤ pos 1

-- a window begins at the first sample or later, and ends at the last or earlier
pub record Covered (first last : Sample) (w : Span) : Type 0 where
  pub begins : pos first.time ≤ℤ w.start
  pub ends : w.end ≤ℤ pos last.time

pub record OutsideWindows : Type 0 where
  -- either window bars a delivery if it is not empty and begins before the first sample
  pub begins_early : (xs : List Sample) (d : Disturbance) (a : Asked) (recovery : Option ℕ) (s : Span) (first : Sample)
      (later : List Sample)
      → WindowOf xs d a recovery s → Rising xs → xs ≡ first ∷ later
      → (Empty s → ⊥) → s.start <ℤ pos first.time → Bars xs d a (refusal WindowOutside 0 0)
  -- either window bars a delivery if it is not empty and ends after the last sample
  pub ends_late : (xs : List Sample) (d : Disturbance) (a : Asked) (recovery : Option ℕ) (s : Span) (earlier : List Sample)
      (last : Sample)
      → WindowOf xs d a recovery s → Rising xs → xs ≡ earlier ++ last ∷ []
      → (Empty s → ⊥) → pos last.time <ℤ s.end → Bars xs d a (refusal WindowOutside 0 0)
  -- windows that are empty, or that begin at the first sample or later and end at the last or earlier, bar nothing
  pub within_samples : (xs : List Sample) (d : Disturbance) (a : Asked) (first last : Sample)
      (later earlier : List Sample)
      → xs ≡ first ∷ later → xs ≡ earlier ++ last ∷ []
      → ((recovery : Option ℕ) (s : Span) → WindowOf xs d a recovery s → Empty s ⊎ Covered first last s)
      → Bars xs d a (refusal WindowOutside 0 0) → ⊥

-- two different times lie both between the samples a and b and in a window
pub record TwoTimes (a b : Sample) (s : Span) : Type 0 where
  pub t : ℤ
  pub u : ℤ
  pub differ : t <ℤ u
  pub from_samples : (pos a.time ≤ℤ t) × (u ≤ℤ pos b.time)
  pub from_window : (s.start ≤ℤ t) × (u ≤ℤ s.end)

pub record SharingSamples : Type 0 where
  -- two samples share more than an instant with a window exactly if two different times lie both between them and in it
  pub more_than_an_instant : (a b : Sample) (s : Span) → ExactlyIf (Shares a b s) (TwoTimes a b s)
  -- a pair whose later sample stands on a window's start, or whose earlier one on its end, shares no more than an instant with it
  pub touches_start : (a b : Sample) (s : Span) → pos b.time ≡ s.start → Shares a b s → ⊥
  pub touches_end : (a b : Sample) (s : Span) → pos a.time ≡ s.end → Shares a b s → ⊥
  -- a pair whose later sample stands one millisecond over the start, or whose earlier one stands one before the end, does
  pub over_start : (a b : Sample) (s : Span) → a.time < b.time → s.start <ℤ s.end
      → pos b.time ≡ s.start +ℤ pos 1 → Shares a b s
  pub before_end : (a b : Sample) (s : Span) → a.time < b.time → s.start <ℤ s.end
      → pos a.time +ℤ pos 1 ≡ s.end → Shares a b s
  -- the pair that straddles recovery shares with a window that starts before recovery and is cut there
  pub straddles_recovery : (a b : Sample) (recovery : ℕ) (s : Span) → a.time < recovery → recovery ≤ b.time
      → s.start <ℤ pos recovery → s.end ≡ pos recovery → Shares a b s

-- the samples at the places k − 1 and k
pub record Neighbours (xs : List Sample) (k : ℕ) (earlier later : Sample) : Type 0 where
  pub not_first : 1 ≤ k
  pub there : k < length xs
  pub earlier_is : at xs (k - 1) ≡ earlier
  pub later_is : at xs k ≡ later

pub record WideGaps : Type 0 where
  -- neighbours that share with either window bar a delivery if they are a millisecond further apart than the widest gap, or more
  pub wider_bars : (xs : List Sample) (d : Disturbance) (a : Asked) (recovery : Option ℕ) (s : Span) (k : ℕ)
      (earlier later : Sample)
      → WindowOf xs d a recovery s → Neighbours xs k earlier later → Shares earlier later s
      → earlier.time + a.row.widest_gap + 1 ≤ later.time → Bars xs d a (refusal WideGap 0 0)
  -- so do the neighbours that straddle recovery, although the later one is not used
  pub straddling_bars : (xs : List Sample) (d : Disturbance) (a : Asked) (recovery : ℕ) (s : Span) (k : ℕ)
      (earlier later : Sample)
      → WindowOf xs d a (Some recovery) s → Neighbours xs k earlier later → earlier.time < recovery
      → recovery ≤ later.time
      → s.start <ℤ pos recovery → s.end ≡ pos recovery
      → earlier.time + a.row.widest_gap + 1 ≤ later.time → Bars xs d a (refusal WideGap 0 0)
  -- gaps exactly as wide as the widest, or narrower, bar nothing
  pub as_wide_passes : (xs : List Sample) (d : Disturbance) (a : Asked)
      → ((recovery : Option ℕ) (s : Span) (k : ℕ) (earlier later : Sample)
      → WindowOf xs d a recovery s → Neighbours xs k earlier later → Shares earlier later s
      → later.time ≤ earlier.time + a.row.widest_gap)
      → Bars xs d a (refusal WideGap 0 0) → ⊥

pub record WindowLaws : Type 0 where
  pub used_points : UsedPoints
  pub steady_roundings : SteadyRoundings
  pub ends_of_windows : EndsOfWindows
  pub values_of_windows : ValuesOfWindows
  pub places_of_windows : PlacesOfWindows
  pub empty_windows : EmptyWindows
  pub outside_windows : OutsideWindows
  pub sharing_samples : SharingSamples
  pub wide_gaps : WideGaps
