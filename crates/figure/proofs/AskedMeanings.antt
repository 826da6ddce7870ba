-- What the steps are worked out from, what a report tells, and what bars a delivery beside its windows.
use Rattle.std.proofs.Common.{◌≡◌, ℕ, zero, suc, ◌<◌, ◌≤◌, List, [], ◌∷◌, ◌++◌, length, take, ℤ, Some, None, Option, option_map, sym, refl, ap, ◌∙◌, subst, inl, inr, arith, slice_index_or, pos, ◌+ℤ◌, ◌-ℤ◌}
use borrow.Author.Differences.{ints}
use Rattle.std.specs.List.{AllZip, Contains, AllByRecursion}
use Rattle.exact.specs.Fractions.{Fraction, whole}
use Rattle.recording.specs.declared.refusal.Reason.{Reason}
use Rattle.recording.specs.declared.refusal.Reason.TheVariants.{AmountOutside, NoBaseSample, OutsideTargets}
use Rattle.recording.specs.declared.sample.Sample.{Sample}
use Rattle.recording.specs.Refusals.{refusal}
use Rattle.disturbance.specs.declared.disturbance.Disturbance.{Disturbance}
use Rattle.timeline.specs.declared.target.Target.{Target}
use Rattle.disturbance.specs.declared.direction.Direction.{Direction}
use Rattle.response.specs.declared.base.BaseWindow.{BaseWindow}
use Rattle.response.specs.declared.group.Window.{Window}
use Rattle.response.specs.declared.setup.Trigger.{Trigger}
use Rattle.figure.specs.declared.point.Point.{Point}
use Rattle.figure.specs.declared.report.Report.{Report}
use Rattle.figure.specs.Points.{course}
use Rattle.figure.specs.Steps.{to_half_up, base_points, Case, value, second_value}
use Rattle.figure.specs.Windows.{ramp_time, shift_of}
use Rattle.figure.specs.Asked.{Asked, TriggerTime, Times, points_of, targets_of, base_samples, case_of}
use Rattle.figure.specs.Defects.{Missed, MissedByTargets}
use Rattle.figure.specs.Barred.{Bars}
use Rattle.figure.specs.Reports.{Reports}
use Rattle.figure.specs.StepLaws.{InBase}
use Rattle.figure.specs.AskedLaws.{Seen, IsCaseOf, Tells, Covers, WithTargets, IsBaseSample, FigureIsOfWhatIsAsked}
use Rattle.figure.proofs.Bases.{counted_laws}
use Rattle.figure.proofs.Reasons.{Says, says, applies_for}

seen : (d : Direction) (xs : List Sample) → AllZip (Seen d) xs (course d xs)
seen d [] = tt
seen d (s ∷ xs) = (record { time = refl; dip_is = refl; push_is = refl }, seen d xs)

taken : {X : Type 0} (xs ys : List X) → take (length xs) (xs ++ ys) ≡ xs
taken [] [] = refl
taken [] (y ∷ ys) = refl
taken (x ∷ xs) ys = ap (λ zs. x ∷ zs) (taken xs ys)

case_is : (xs : List Sample) (d : Disturbance) (a : Asked) (recovery : Option ℕ) (shift : ℤ) → IsCaseOf xs d a recovery (case_of xs d a recovery shift)
case_is xs d a recovery shift = record {
  points = seen d.direction xs;
  targets = λ counted beyond e n. rw (e, ← n) (taken counted beyond);
  direction = refl;
  base_window = refl;
  disturbance = refl;
  rule = refl;
  until = refl;
}

told_second : (c : Case) (w : Window) (o : Option ℤ) → option_map whole o ≡ second_value to_half_up c → c.second ≡ Some w → (z : ℤ) × (o ≡ Some z) × (whole z ≡ value to_half_up c w)
told_second c w (Some z) e is = let h : Some (whole z) ≡ Some (value to_half_up c w) = e ∙ ap (option_map (value to_half_up c)) is in (z, refl, cc)
told_second c w None e is = let h : ◌≡◌ {A = Option Fraction} None (Some (value to_half_up c w)) = e ∙ ap (option_map (value to_half_up c)) is in absurd (cc)

told_none : (c : Case) (o : Option ℤ) → option_map whole o ≡ second_value to_half_up c → c.second ≡ None → o ≡ None
told_none c (Some z) e is = let h : Some (whole z) ≡ None = e ∙ ap (option_map (value to_half_up c)) is in absurd (cc)
told_none c None e is = refl

report_tells : (xs : List Sample) (d : Disturbance) (a : Asked) (recovery : Option ℕ) (shift : ℤ) (report : Report) → Reports xs d a recovery shift report → Tells (case_of xs d a recovery shift) report
report_tells xs d a recovery shift report r = record {
  first = r.first;
  second = λ w e. told_second (case_of xs d a recovery shift) w report.second r.second e;
  no_second = λ e. told_none (case_of xs d a recovery shift) report.second r.second e;
}

in_time : (xs : List Sample) (d : Disturbance) (a : Asked) (recovery S : ℕ) (g : Trigger) → a.trigger ≡ Some g → Times xs d a (Some recovery) (Some S) → (d.time ≤ S) × (S < recovery)
in_time xs d a recovery S g e t =
    let k = subst (λ (o : Option Trigger). TriggerTime xs d (Some recovery) o (Some S)) e t.triggers in
    (k.holds.0, k.holds.1)

-- ---- the shift
unshifted : (rate T : ℕ) (o : Option Trigger) (S : Option ℕ) (shift : ℤ) → o ≡ None → shift_of rate T o S ≡ Some shift → shift ≡ pos 0
unshifted rate T None S shift e is = cc
unshifted rate T (Some g) S shift e is = absurd (cc)

to_ramp : (rate T : ℕ) (o : Option Trigger) (S : ℕ) (shift : ℤ) (g : Trigger) → o ≡ Some g → shift_of rate T o (Some S) ≡ Some shift → (pos T +ℤ shift +ℤ pos (ramp_time rate g)) ≡ pos S
to_ramp rate T None S shift g e is = absurd (cc)
to_ramp rate T (Some h) S shift g e is =
    let same : h ≡ g = cc in
    let z : pos S -ℤ pos T -ℤ pos (ramp_time rate h) ≡ shift = cc in
    let y : pos S -ℤ pos T -ℤ pos (ramp_time rate g) ≡ shift = subst (λ (t : Trigger). pos S -ℤ pos T -ℤ pos (ramp_time rate t) ≡ shift) same z in
    omega (arith, ints, y)

-- ---- a defect, by its reason
bars : (xs : List Sample) (d : Disturbance) (a : Asked) (recovery S : Option ℕ) → Times xs d a recovery S → (why : Reason) → Says xs d a recovery S why → Bars xs d a (refusal why 0 0)
bars xs d a recovery S times why h = record { recovery = recovery; trigger_time = S; times = times; applies = applies_for xs d a recovery S why h }

said : (xs : List Sample) (d : Disturbance) (a : Asked) (why : Reason) (b : Bars xs d a (refusal why 0 0)) → Says xs d a b.recovery b.trigger_time why
said xs d a why b = says xs d a b.recovery b.trigger_time (refusal why 0 0) b.applies

-- ---- the base
none_there : {X : Type 0} (xs : List X) → ((x : X) → Contains xs x → ⊥) → xs ≡ []
none_there [] never = refl
none_there (x ∷ xs) never = absurd (never x (zero, omega arith, refl))

not_in_none : {X : Type 0} (xs : List X) (x : X) → xs ≡ [] → Contains xs x → ⊥
not_in_none [] x e (k, less, is) = omega arith
not_in_none (y ∷ ys) x e h = cc

module _ (T : ℕ) (base : BaseWindow) (ps : List Point) where
  empty_base : ((p : Point) → Contains ps p → InBase T base p → ⊥) → base_points T base ps ≡ []
  empty_base never = none_there (base_points T base ps) (λ p h. let k = (counted_laws T base ps).no_others p h in never p k.0 k.1)

  no_base : base_points T base ps ≡ [] → (p : Point) → Contains ps p → InBase T base p → ⊥
  no_base e p h inside = not_in_none (base_points T base ps) p e ((counted_laws T base ps).all_inside p h inside)

-- ---- targets
of_all : {X : Type 0} (P : X → Type 0) (xs : List X) (x : X) → AllByRecursion P xs → Contains xs x → P x
of_all P [] x h (k, less, is) = absurd (omega arith)
of_all P (y ∷ ys) x h (zero, less, is) = subst P is h.0
of_all P (y ∷ ys) x h (suc k, less, is) = of_all P ys x h.1 (k, omega arith, is)

to_all : {X : Type 0} (P : X → Type 0) (xs : List X) → ((x : X) → Contains xs x → P x) → AllByRecursion P xs
to_all P [] h = tt
to_all P (x ∷ xs) h = (h x (zero, omega arith, refl), to_all P xs (λ y (k, less, is). h y (suc k, omega arith, is)))

not_missed : (gs : List Target) (t : ℕ) → Covers gs t → Missed gs t → ⊥
not_missed gs t c (inl before) = let h = of_all (λ g. t < g.time) gs c.first before c.begins.0 in omega (arith, h, c.begins.1)
not_missed gs t c (inr after) = let h = of_all (λ g. g.time < t) gs c.last after c.ends.0 in omega (arith, h, c.ends.1)

at_place : (ps : List Point) (k : ℕ) (P : Point → Type 0) → k < length ps → ((p : Point) → P (slice_index_or ps k p)) → (p : Point) × Contains ps p × P p
at_place [] k P less h = absurd (omega arith)
at_place (p ∷ ps) zero P less h = (p, (zero, omega arith, refl), h p)
at_place (p ∷ ps) (suc k) P less h = let (q, (j, below, is), holds) = at_place ps k P (omega arith) h in (q, (suc j, omega arith, is), holds)

one_at : (ps : List Point) (p : Point) (P : Point → Type 0) → Contains ps p → P p → (k : ℕ) × (k < length ps) × ((d : Point) → P (slice_index_or ps k d))
one_at [] p P (k, less, is) h = absurd (omega arith)
one_at (q ∷ ps) p P (zero, less, is) h = (zero, omega arith, λ d. subst P (sym is) h)
one_at (q ∷ ps) p P (suc k, less, is) h = let (j, below, all) = one_at ps p P (k, omega arith, is) h in (suc j, omega arith, all)

module _ (xs : List Sample) (d : Disturbance) (a : Asked) where
  abbrev T : ℕ
  T = d.time

  abbrev ps : List Point
  ps = points_of xs d

  covering : Covers (targets_of a) T → ((p : Point) → IsBaseSample xs d a p → Covers (targets_of a) p.time) → MissedByTargets (targets_of a) T (base_samples xs d a) → ⊥
  covering at_T at_base (some, inl m) = not_missed (targets_of a) T at_T m
  covering at_T at_base (some, inr (k, there, m)) =
      let (q, among, missed) = at_place (base_samples xs d a) k (λ p. Missed (targets_of a) p.time) there m in
      let h = (counted_laws T a.settings.base ps).no_others q among in
      not_missed (targets_of a) q.time (at_base q (h.0, h.1)) missed

  missed_at : (p : Point) → WithTargets a → IsBaseSample xs d a p → Missed (targets_of a) p.time → MissedByTargets (targets_of a) T (base_samples xs d a)
  missed_at p some is m = (some, inr (one_at (base_samples xs d a) p (λ q. Missed (targets_of a) q.time) ((counted_laws T a.settings.base ps).all_inside p is.0 is.1) m))

pub asked_laws_lem : FigureIsOfWhatIsAsked
asked_laws_lem xs d a = record {
  case_is = case_is xs d a;
  report_tells = report_tells xs d a;
  triggers_in_time = in_time xs d a;
  not_shifted = λ S shift e is. unshifted a.settings.response.rate.mhz_per_s d.time a.trigger S shift e is;
  shifted_to_ramp = λ S shift g e is. to_ramp a.settings.response.rate.mhz_per_s d.time a.trigger S shift g e is;
  amount_bars = λ recovery S times. (λ b. said xs d a AmountOutside b, λ h. bars xs d a recovery S times AmountOutside h);
  no_base_bars = λ recovery S times. (
    λ b p is. no_base d.time a.settings.base (points_of xs d) (said xs d a NoBaseSample b) p is.0 is.1,
    λ never. bars xs d a recovery S times NoBaseSample (empty_base d.time a.settings.base (points_of xs d) (λ p there inside. never p (there, inside))),
  );
  covering_passes = λ at_T at_base b. covering xs d a at_T at_base (said xs d a OutsideTargets b);
  all_after_bars = λ recovery S times some h. bars xs d a recovery S times OutsideTargets (some, inl (inl (to_all (λ g. d.time < g.time) (targets_of a) h)));
  all_before_bars = λ recovery S times some h. bars xs d a recovery S times OutsideTargets (some, inl (inr (to_all (λ g. g.time < d.time) (targets_of a) h)));
  all_after_base_bars = λ recovery S p times some is h. bars xs d a recovery S times OutsideTargets (missed_at xs d a p some is (inl (to_all (λ g. p.time < g.time) (targets_of a) h)));
  all_before_base_bars = λ recovery S p times some is h. bars xs d a recovery S times OutsideTargets (missed_at xs d a p some is (inr (to_all (λ g. g.time < p.time) (targets_of a) h)));
}
