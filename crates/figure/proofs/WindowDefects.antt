-- What bars a delivery for its windows.
use Rattle.std.proofs.Common.{◌≡◌, ℕ, ◌+◌, ◌-◌, ◌<◌, ◌≤◌, ◌⊎◌, List, [], ◌∷◌, ◌++◌, ℤ, pos, ◌<ℤ◌, Some, Option, sym, refl, subst, inl, inr, arith}
use borrow.Author.Differences.{ints}
use Rattle.std.specs.Int.{int_max, int_min}
use Rattle.std.specs.List.{AllByRecursion}
use Rattle.std.proofs.lemmas.Int.{clamps}
use Rattle.recording.specs.declared.refusal.Reason.{Reason}
use Rattle.recording.specs.declared.refusal.Reason.TheVariants.{EmptyFirstWindow, WindowOutside, WideGap}
use Rattle.recording.specs.declared.sample.Sample.{Sample}
use Rattle.recording.specs.Refusals.{refusal}
use Rattle.disturbance.specs.Trace.{at, Rising}
use Rattle.disturbance.specs.declared.disturbance.Disturbance.{Disturbance}
use Rattle.figure.specs.declared.span.Span.{Span}
use Rattle.figure.specs.Windows.{Empty}
use Rattle.figure.specs.Asked.{Asked, shift_in, first_span, second_span}
use Rattle.figure.specs.Defects.{Beyond, Shares, Gapped, AtShift, EitherWindow}
use Rattle.figure.specs.Barred.{Bars}
use Rattle.figure.specs.WindowLaws.{ExactlyIf, TwoTimes, HasShift, WindowOf, Neighbours, Covered, EmptyWindows, OutsideWindows, SharingSamples, WideGaps}
use Rattle.figure.proofs.Reasons.{Says, says, applies_for}
use Rattle.figure.proofs.Rising.{rising_rest}
use Rattle.figure.proofs.Meanings.{empty_by_recovery}
use Rattle.figure.proofs.Once.{recovery_once, trigger_time_once}

module _ (xs : List Sample) (d : Disturbance) (a : Asked) (recovery : Option ℕ) (shift : ℤ) (known : HasShift xs d a recovery shift) where
  abbrev S : Option ℕ
  S = known.trigger_time

  -- at the one recovery and trigger time
  at_known : (why : Reason) → Bars xs d a (refusal why 0 0) → Says xs d a recovery S why
  at_known why b =
      let recovers = recovery_once xs d a b.recovery recovery b.trigger_time S b.times known.times in
      let triggers = trigger_time_once xs d a b.recovery recovery b.trigger_time S b.times known.times in
      subst (λ (o : Option ℕ). Says xs d a o S why) recovers (subst (λ (o : Option ℕ). Says xs d a b.recovery o why) triggers (says xs d a b.recovery b.trigger_time (refusal why 0 0) b.applies))

  bars : (why : Reason) → Says xs d a recovery S why → Bars xs d a (refusal why 0 0)
  bars why h = record { recovery = recovery; trigger_time = S; times = known.times; applies = applies_for xs d a recovery S why h }

  -- at the one shift
  from_shift : (P : ℤ → Type 0) → AtShift (shift_in d a S) P → P shift
  from_shift P (z, e, p) = let shifted = known.shifted in let same : z ≡ shift = cc in subst P same p

  empty_bars : Empty (first_span d a recovery shift) → Bars xs d a (refusal EmptyFirstWindow 0 0)
  empty_bars h = bars EmptyFirstWindow (shift, known.shifted, h)

  bars_empty : Bars xs d a (refusal EmptyFirstWindow 0 0) → Empty (first_span d a recovery shift)
  bars_empty b = from_shift (λ z. Empty (first_span d a recovery z)) (at_known EmptyFirstWindow b)

  outside_bars : Beyond xs (first_span d a recovery shift) ⊎ Beyond xs (second_span d a recovery shift) → Bars xs d a (refusal WindowOutside 0 0)
  outside_bars h = bars WindowOutside (shift, known.shifted, h)

  wide_bars : Gapped xs a.row.widest_gap (first_span d a recovery shift) ⊎ Gapped xs a.row.widest_gap (second_span d a recovery shift) → Bars xs d a (refusal WideGap 0 0)
  wide_bars h = bars WideGap (shift, known.shifted, h)

-- of either window
either : (xs : List Sample) (d : Disturbance) (a : Asked) (recovery : Option ℕ) (s : Span) (w : WindowOf xs d a recovery s) (P : Span → Type 0) → P s → P (first_span d a recovery w.shift) ⊎ P (second_span d a recovery w.shift)
either xs d a recovery s w P p = by w.either
  where
    by : (s ≡ first_span d a recovery w.shift) ⊎ (s ≡ second_span d a recovery w.shift) → P (first_span d a recovery w.shift) ⊎ P (second_span d a recovery w.shift)
    by (inl e) = inl (subst P e p)
    by (inr e) = inr (subst P e p)

-- where neither window has it
module _ (xs : List Sample) (d : Disturbance) (a : Asked) (P : Span → Type 0) (none : (recovery : Option ℕ) (s : Span) → WindowOf xs d a recovery s → P s → ⊥) where
  neither : (recovery : Option ℕ) (shift : ℤ) → HasShift xs d a recovery shift → P (first_span d a recovery shift) ⊎ P (second_span d a recovery shift) → ⊥
  neither recovery shift known (inl p) = none recovery _ (record { shift = shift; known = known; either = inl refl }) p
  neither recovery shift known (inr p) = none recovery _ (record { shift = shift; known = known; either = inr refl }) p

  never : (why : Reason) (b : Bars xs d a (refusal why 0 0)) → EitherWindow xs d a b.recovery b.trigger_time P → ⊥
  never why b (z, e, h) = neither b.recovery z (record { trigger_time = b.trigger_time; times = b.times; shifted = e }) h

-- ---- empty windows
pub empty_windows : EmptyWindows
empty_windows = record {
  first_bars = λ xs d a recovery shift known rises. (
    λ b. empty_by_recovery.empty d.time shift recovery a.row.first rises (bars_empty xs d a recovery shift known b),
    λ h. empty_bars xs d a recovery shift known (empty_by_recovery.recovered d.time shift recovery a.row.first h),
  );
  one_millisecond_left = λ T shift recovery w rises is. omega (arith, ints, clamps, is);
}

-- ---- windows past the samples
all_later : (z : ℤ) (s : Sample) (xs : List Sample) → Rising (s ∷ xs) → z <ℤ pos s.time → AllByRecursion (λ x. z <ℤ pos x.time) (s ∷ xs)
all_later z s [] rising less = (less, tt)
all_later z s (x ∷ xs) rising less = let up : s.time < x.time = rising 0 (omega arith) in (less, all_later z x xs (rising_rest s (x ∷ xs) rising) (omega (arith, ints, less)))

all_earlier : (z : ℤ) (last : Sample) (xs : List Sample) → Rising (xs ++ last ∷ []) → pos last.time <ℤ z → AllByRecursion (λ x. pos x.time <ℤ z) (xs ++ last ∷ [])
all_earlier z last [] rising less = (less, tt)
all_earlier z last (s ∷ []) rising less = let up : s.time < last.time = rising 0 (omega arith) in (omega (arith, ints, less), (less, tt))
all_earlier z last (s ∷ x ∷ xs) rising less =
    let up : s.time < x.time = rising 0 (omega arith) in
    let rest = all_earlier z last (x ∷ xs) (rising_rest s (x ∷ xs ++ last ∷ []) rising) less in
    (omega (arith, ints, rest.0), rest)

last_of : (P : Sample → Type 0) (xs : List Sample) (last : Sample) → AllByRecursion P (xs ++ last ∷ []) → P last
last_of P [] last h = h.0
last_of P (x ∷ xs) last h = last_of P xs last h.1

not_beyond : (xs : List Sample) (w : Span) (first last : Sample) (later earlier : List Sample) → xs ≡ first ∷ later → xs ≡ earlier ++ last ∷ [] → Empty w ⊎ Covered first last w → Beyond xs w → ⊥
not_beyond xs w first last later earlier e e' (inl empty) (full, side) = full empty
not_beyond xs w first last later earlier e e' (inr c) (full, inl early) =
    let h = (subst (AllByRecursion (λ (s : Sample). w.start <ℤ pos s.time)) e early).0 in omega (arith, ints, h, c.begins)
not_beyond xs w first last later earlier e e' (inr c) (full, inr late) =
    let h = last_of (λ s. pos s.time <ℤ w.end) earlier last (subst (AllByRecursion (λ (s : Sample). pos s.time <ℤ w.end)) e' late) in omega (arith, ints, h, c.ends)

pub outside_windows : OutsideWindows
outside_windows = record {
  begins_early = λ xs d a recovery s first later w rising e full less. outside_bars xs d a recovery w.shift w.known
      (either xs d a recovery s w (Beyond xs) (full, inl (subst (AllByRecursion (λ (x : Sample). s.start <ℤ pos x.time)) (sym e) (all_later s.start first later (subst Rising e rising) less))));
  ends_late = λ xs d a recovery s earlier last w rising e full less. outside_bars xs d a recovery w.shift w.known
      (either xs d a recovery s w (Beyond xs) (full, inr (subst (AllByRecursion (λ (x : Sample). pos x.time <ℤ s.end)) (sym e) (all_earlier s.end last earlier (subst Rising e rising) less))));
  within_samples = λ xs d a first last later earlier e e' within b.
      never xs d a (Beyond xs) (λ recovery s w. not_beyond xs s first last later earlier e e' (within recovery s w)) WindowOutside b (says xs d a b.recovery b.trigger_time _ b.applies);
}

-- ---- samples that share with a window
straddles : (a b : Sample) (recovery : ℕ) (s : Span) → a.time < recovery → recovery ≤ b.time → s.start <ℤ pos recovery → s.end ≡ pos recovery → Shares a b s
straddles a b recovery s lo hi still cut = omega (arith, ints, clamps, still, cut)

sharing_exactly : (a b : Sample) (s : Span) → ExactlyIf (Shares a b s) (TwoTimes a b s)
sharing_exactly a b s = (
  λ h. record {
    t = int_max (pos a.time) s.start;
    u = int_min (pos b.time) s.end;
    differ = h;
    from_samples = (omega (arith, ints, clamps), omega (arith, ints, clamps));
    from_window = (omega (arith, ints, clamps), omega (arith, ints, clamps));
  },
  λ m. omega (arith, ints, clamps, m.differ, m.from_samples.0, m.from_samples.1, m.from_window.0, m.from_window.1),
)

pub sharing_samples : SharingSamples
sharing_samples = record {
  more_than_an_instant = sharing_exactly;
  touches_start = λ a b s e h. omega (arith, ints, clamps, e, h);
  touches_end = λ a b s e h. omega (arith, ints, clamps, e, h);
  over_start = λ a b s lt rises e. omega (arith, ints, clamps, rises, e);
  before_end = λ a b s lt rises e. omega (arith, ints, clamps, rises, e);
  straddles_recovery = straddles;
}

-- ---- gaps
gapped : (xs : List Sample) (widest : ℕ) (s : Span) (k : ℕ) (earlier later : Sample) → Neighbours xs k earlier later → Shares earlier later s → earlier.time + widest + 1 ≤ later.time → Gapped xs widest s
gapped xs widest s k earlier later n shares wide =
    record {
      place = k;
      later = n.not_first;
      there = n.there;
      shares = rw (n.earlier_is, n.later_is) shares;
      wide = rw (n.earlier_is, n.later_is) (omega arith);
    }

wider_bars : (xs : List Sample) (d : Disturbance) (a : Asked) (recovery : Option ℕ) (s : Span) (k : ℕ) (earlier later : Sample) → WindowOf xs d a recovery s → Neighbours xs k earlier later → Shares earlier later s
    → earlier.time + a.row.widest_gap + 1 ≤ later.time → Bars xs d a (refusal WideGap 0 0)
wider_bars xs d a recovery s k earlier later w n shares wide =
    wide_bars xs d a recovery w.shift w.known (either xs d a recovery s w (Gapped xs a.row.widest_gap) (gapped xs a.row.widest_gap s k earlier later n shares wide))

narrow : (xs : List Sample) (widest : ℕ) (s : Span) → ((k : ℕ) (earlier later : Sample) → Neighbours xs k earlier later → Shares earlier later s → later.time ≤ earlier.time + widest) → Gapped xs widest s → ⊥
narrow xs widest s none g =
    let h = none g.place (at xs (g.place - 1)) (at xs g.place) (record { not_first = g.later; there = g.there; earlier_is = refl; later_is = refl }) g.shares in
    omega (arith, g.wide)

pub wide_gaps : WideGaps
wide_gaps = record {
  wider_bars = wider_bars;
  straddling_bars = λ xs d a recovery s k earlier later w n lo hi still cut wide. wider_bars xs d a (Some recovery) s k earlier later w n (straddles earlier later recovery s lo hi still cut) wide;
  as_wide_passes = λ xs d a none b. never xs d a (Gapped xs a.row.widest_gap) (λ recovery s w. narrow xs a.row.widest_gap s (λ k earlier later n shares. none recovery s k earlier later w n shares)) WideGap b
      (says xs d a b.recovery b.trigger_time _ b.applies);
}
