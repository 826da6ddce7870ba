-- The worked deliveries on record A: nothing bars them but the wide gap, and their figures are computed.
use Rattle.std.proofs.Common.{◌≡◌, ℕ, zero, suc, ◌-◌, ◌*◌, ◌<◌, ◌≤◌, ◌⊎◌, List, [], ◌∷◌, length, ℤ, pos, negsuc, ◌-ℤ◌, ◌≤ℤ◌, Some, None, Ok, Err, Option, option_map, Result, sym, refl, ap, ◌∙◌, subst, inl, inr, arith, lit≤}
use Rattle.std.specs.Int.{div_ceil}
use Rattle.std.proofs.lemmas.Int.{ints, clamps}
use Rattle.exact.specs.First.{First}
use Rattle.exact.specs.Fractions.{whole, ◌⊕◌, ◌⊖◌, ◌·◌, ◌÷◌, at_most}
use Rattle.exact.specs.Rounding.{half_up}
use Rattle.recording.specs.declared.refusal.Reason.{Reason}
use Rattle.recording.specs.declared.refusal.Reason.TheVariants.{AmountOutside, OtherDirection, OtherTargets, NoBaseSample, OutsideTargets, NoTriggerTime, EmptyFirstWindow, WindowOutside, WideGap}
use Rattle.recording.specs.declared.refusal.Refusal.{Refusal}
use Rattle.recording.specs.Refusals.{refusal}
use Rattle.recording.specs.Samples.{greatest_power}
use Rattle.timeline.specs.Checks.{FirstFault}
use Rattle.disturbance.specs.declared.direction.Direction.TheVariants.{Low}
use Rattle.disturbance.specs.Trace.{at}
use Rattle.disturbance.specs.Trigger.{Triggered}
use Rattle.disturbance.specs.Worked.{record_a, disturbance_a}
use Rattle.disturbance.proofs.Cases.{worked}
use Rattle.response.specs.declared.base.BaseWindow.{BaseWindow}
use Rattle.response.specs.declared.settings.Proposal.{Proposal}
use Rattle.response.specs.declared.settings.Settings.{Settings}
use Rattle.response.specs.declared.setup.Trigger.{Trigger}
use Rattle.response.specs.Settings.{numbers_of, plain_numbers}
use Rattle.figure.specs.declared.point.Point.{Point}
use Rattle.figure.specs.declared.report.Report.{Report}
use Rattle.figure.specs.declared.report.Verdict.{Verdict}
use Rattle.figure.specs.declared.report.Verdict.TheVariants.{Met, Level, Short}
use Rattle.figure.specs.declared.span.Span.{Span}
use Rattle.figure.specs.Points.{course}
use Rattle.figure.specs.Steps.{Weights, Case, to_half_up, base_points, value, first_value, second_value, lesser_of}
use Rattle.figure.proofs.Curves.{value_over}
use Rattle.figure.specs.Windows.{Empty, ramp_start, on_clock, unless_empty}
use Rattle.figure.specs.Asked.{Asked, TriggerTime, shift_in, first_span, second_span, case_of}
use Rattle.figure.specs.Defects.{Beyond, Shares, Gapped, FirstWindow, EitherWindow, defects}
use Rattle.figure.specs.Reports.{Judged, Reports, AnswerIs, Delivers}
use Rattle.figure.proofs.Reasons.{Says, none_of, gap_first}
use Rattle.figure.proofs.Shifted.{shift_triggers, at_shift}
use Rattle.figure.specs.Worked.{asked_r6, report_of_a, plain_at, plainly, once, twice, WorkedDeliveries}

-- ---- the base: of the plain window, the one point at 5,000
abbrev points_a : List Point
points_a = course Low record_a

abbrev base_a : List Point
base_a = record { time = 5000; dip = pos 0; push = pos 0 } ∷ []

base_is : (w : BaseWindow) → w.begin ≡ 20000 → w.end ≡ 8000 → base_points 20001 w points_a ≡ base_a
base_is w b e = simp (b, e)

-- ---- the first window, by its start; it ends at recovery
abbrev recovery_a : Option ℕ
recovery_a = Some 20076

abbrev span_a : ℕ → Span
span_a start = record { start = pos start; end = pos 20076; multiplier = 2 }

not_empty : (start : ℕ) → start < 20076 → Empty (span_a start) → ⊥
not_empty start less h = omega (arith, ints)

not_beyond : (start : ℕ) → 5000 ≤ start → Beyond record_a (span_a start) → ⊥
not_beyond start least (_, inl all) = omega (arith, ints, all.0)
not_beyond start least (_, inr all) = omega (arith, ints, all.1.1.1.0)

no_gap_at : (place start : ℕ) → 1 ≤ place → place < 4 → 20000 ≤ start → Shares (at record_a (place - 1)) (at record_a place) (span_a start) → 50 < (at record_a place).time - (at record_a (place - 1)).time → ⊥
no_gap_at zero start later there after shares wide = omega arith
no_gap_at (suc zero) start later there after shares wide = omega (arith, ints, clamps, shares)
no_gap_at (suc (suc zero)) start later there after shares wide = omega arith
no_gap_at (suc (suc (suc zero))) start later there after shares wide = omega arith
no_gap_at (suc (suc (suc (suc k)))) start later there after shares wide = omega arith

not_gapped : (start : ℕ) → 20000 ≤ start → Gapped record_a 50 (span_a start) → ⊥
not_gapped start after g = no_gap_at g.place start g.later g.there after g.shares g.wide

-- the samples at 5,000 and 20,000 are too far apart
gapped : (start : ℕ) → 5000 ≤ start → start < 20000 → Gapped record_a 50 (span_a start)
gapped start least before = record { place = 1; later = omega arith; there = omega arith; shares = omega (arith, ints, clamps); wide = omega arith }

-- an empty window shares nothing
empty_not_gapped : (w : Span) → Empty w → Gapped record_a 50 w → ⊥
empty_not_gapped w empty g = omega (arith, ints, clamps, g.shares)

-- ---- the figures, by the start of the first window
abbrev case_a : Weights → ℕ → Case
case_a weight start = record {
  points = points_a;
  direction = Low;
  targets = [];
  disturbance = 20001;
  base = record { begin = 20000; end = 8000; within = ((lit≤ tt, lit≤ tt), lit≤ tt) };
  weight = weight;
  recovery = recovery_a;
  first = on_clock (span_a start);
  second = None;
}

abbrev Figure : Weights → ℕ → ℕ → Type 0
Figure weight start watts = first_value to_half_up (case_a weight start) ≡ whole (pos watts)

figure_plainly : Figure plainly 20001 1360
unfolding whole half_up ◌⊕◌ ◌⊖◌ ◌·◌ ◌÷◌ at_most
figure_plainly = refl

figure_once : Figure once 20001 1360
unfolding whole half_up ◌⊕◌ ◌⊖◌ ◌·◌ ◌÷◌ at_most
figure_once = refl

figure_twice : Figure twice 20001 2719
unfolding whole half_up ◌⊕◌ ◌⊖◌ ◌·◌ ◌÷◌ at_most
figure_twice = refl

figure_switched : Figure once 20020 1679
unfolding whole half_up ◌⊕◌ ◌⊖◌ ◌·◌ ◌÷◌ at_most
figure_switched = refl

-- ---- what is asked of record A
-- the amount and the base are fit, the first window starts so, and the second is empty
record Starts (s : Settings) (trigger : Option Trigger) (weight : Weights) (n : ℕ) (S : Option ℕ) (z : ℤ) (start : ℕ) : Type 0 where
  amount : pos n ≤ℤ greatest_power
  base : base_points 20001 s.base points_a ≡ base_a
  triggers : TriggerTime record_a disturbance_a recovery_a trigger S
  shift : shift_in disturbance_a (asked_r6 s trigger weight n) S ≡ Some z
  first : first_span disturbance_a (asked_r6 s trigger weight n) recovery_a z ≡ span_a start
  least : 5000 ≤ start
  less : start < 20076
  second : Empty (second_span disturbance_a (asked_r6 s trigger weight n) recovery_a z)
  none : unless_empty (second_span disturbance_a (asked_r6 s trigger weight n) recovery_a z) ≡ None

module _ {s : Settings} {trigger : Option Trigger} {weight : Weights} {n : ℕ} {S : Option ℕ} {z : ℤ} {start : ℕ} (w : Starts s trigger weight n S z start) where
  abbrev asked : Asked
  asked = asked_r6 s trigger weight n

  not_first_empty : FirstWindow record_a disturbance_a asked recovery_a S Empty → ⊥
  not_first_empty = at_shift _ z _ w.shift (λ h. not_empty start w.less (subst (λ (v : Span). Empty v) w.first h))

  not_outside : EitherWindow record_a disturbance_a asked recovery_a S (Beyond record_a) → ⊥
  not_outside = at_shift _ z _ w.shift (λ h. elim h [ inl b ↦ not_beyond start w.least (subst (λ (v : Span). Beyond record_a v) w.first b) | inr b ↦ b.0 w.second ])

  no_gap : 20000 ≤ start → Says record_a disturbance_a asked recovery_a S WideGap → ⊥
  no_gap after = at_shift _ z _ w.shift (λ h. elim h [ inl g ↦ not_gapped start after (subst (λ (v : Span). Gapped record_a 50 v) w.first g) | inr g ↦ empty_not_gapped _ w.second g ])

  -- only the gap can apply
  passed : (why : Reason) → (why ≡ WideGap → ⊥) → Says record_a disturbance_a asked recovery_a S why → ⊥
  passed AmountOutside other (inl below) = omega (arith, ints)
  passed AmountOutside other (inr above) = omega (arith, ints, w.amount)
  passed OtherDirection other h = h refl
  passed OtherTargets other bad = bad (record { room = omega arith; ordered = record { within = λ i d h. absurd (omega arith); rising = λ i d h. absurd (omega arith) } })
  passed NoBaseSample other empty = omega (arith, ap length (sym w.base ∙ empty))
  passed OutsideTargets other missed = omega (arith, missed.0)
  passed NoTriggerTime other never = shift_triggers record_a disturbance_a recovery_a _ trigger S z w.triggers w.shift never
  passed EmptyFirstWindow other h = not_first_empty h
  passed WindowOutside other h = not_outside h
  passed WideGap other h = other refl
  passed why other h = h

  answered : (defect : Option Refusal) (r : Result Report Refusal) → FirstFault (defects record_a disturbance_a asked recovery_a S) defect → AnswerIs record_a disturbance_a asked recovery_a S defect r → Delivers record_a disturbance_a asked r
  answered defect r first answer = record { recovery = recovery_a; trigger_time = S; times = record { recovers = worked.recovery; triggers = w.triggers }; defect = defect; first = first; answer = answer }

  -- from 20,000 on, the figure is reported with its verdict
  reported : (watts : ℕ) (verdict : Verdict) → 20000 ≤ start → Figure weight start watts → Judged (pos watts) (pos n) verdict → Delivers record_a disturbance_a asked (Ok (report_of_a watts verdict))
  reported watts verdict after figure judged =
      let c : Case = case_of record_a disturbance_a asked recovery_a z in
      let here = case_a weight start in
      let first : whole (pos watts) ≡ first_value to_half_up c = sym (ap (λ v. value to_half_up c (on_clock v)) w.first ∙ value_over to_half_up c points_a here.base w.base refl (on_clock (span_a start)) ∙ figure) in
      let second : None ≡ second_value to_half_up c = sym (ap (option_map (value to_half_up c)) w.none) in
      let reports : Reports record_a disturbance_a asked recovery_a z (report_of_a watts verdict) = record { time = refl; recovery = refl; first = first; second = second; watts = first ∙ ap (lesser_of (first_value to_half_up c)) second; verdict = judged } in
      answered None _ (none_of record_a disturbance_a asked recovery_a S passed (no_gap after)) (z, report_of_a watts verdict, w.shift, refl, reports)

  -- before, the gap is refused
  refused : start < 20000 → Delivers record_a disturbance_a asked (Err (refusal WideGap 0 0))
  refused before = answered (Some (refusal WideGap 0 0)) _ (gap_first record_a disturbance_a asked recovery_a S passed (z, w.shift, inl (subst (λ (v : Span). Gapped record_a 50 v) (sym w.first) (gapped start w.least before)))) refl

-- ---- what the settings give
plain_base : (s : Settings) (rate : ℕ) → numbers_of s ≡ plain_at rate → base_points 20001 s.base points_a ≡ base_a
plain_base s rate e = base_is s.base (ap (λ p. p.base_begin) e) (ap (λ p. p.base_end) e)

-- without a trigger nothing is shifted
plain : (s : Settings) (weight : Weights) (n watts : ℕ) (verdict : Verdict) → numbers_of s ≡ plain_numbers → pos n ≤ℤ greatest_power → Figure weight 20001 watts → Judged (pos watts) (pos n) verdict → Delivers record_a disturbance_a (asked_r6 s None weight n) (Ok (report_of_a watts verdict))
plain s weight n watts verdict e amount figure judged =
    let w : Starts s None weight n None (pos 0) 20001 = record { amount = amount; base = plain_base s 125 e; triggers = refl; shift = refl; first = refl; least = omega arith; less = omega arith; second = omega (arith, ints); none = refl } in
    reported w watts verdict (omega arith) figure judged

-- the trigger time is 24 ms after the disturbance, and the time of the ramp is taken off
switch_shift : (s : Settings) (rate : ℕ) → numbers_of s ≡ plain_at rate → shift_in disturbance_a (asked_r6 s (Some s.response.switch_dip) once 0) (Some 20025) ≡ Some (pos 24 -ℤ pos (div_ceil 50000 rate))
switch_shift s rate e = ap (λ p. Some (pos 24 -ℤ pos (div_ceil ((p.switch_dip - ramp_start) * 1000) p.rate))) e

switch_triggers : (s : Settings) (rate : ℕ) → numbers_of s ≡ plain_at rate → First (Triggered record_a disturbance_a recovery_a s.response.switch_dip.dip) 20025
switch_triggers s rate e = subst (λ (p : Proposal). First (Triggered record_a disturbance_a recovery_a p.switch_dip) 20025) (sym e) worked.trigger

fast : (s : Settings) → numbers_of s ≡ plain_at 10000 → Starts s (Some s.response.switch_dip) once 0 (Some 20025) (pos 19) 20020
fast s e = record { amount = omega (arith, ints); base = plain_base s 10000 e; triggers = switch_triggers s 10000 e; shift = switch_shift s 10000 e; first = refl; least = omega arith; less = omega arith; second = omega (arith, ints); none = refl }

slow : (s : Settings) → numbers_of s ≡ plain_numbers → Starts s (Some s.response.switch_dip) once 0 (Some 20025) (negsuc 375) 19625
slow s e = record { amount = omega (arith, ints); base = plain_base s 125 e; triggers = switch_triggers s 125 e; shift = switch_shift s 125 e; first = refl; least = omega arith; less = omega arith; second = omega (arith, ints); none = refl }

pub worked_deliveries_lem : WorkedDeliveries
worked_deliveries_lem = record {
  met = λ s e. plain s plainly 1359 1360 Met e (omega (arith, ints)) figure_plainly (omega (arith, ints));
  level = λ s e. plain s plainly 1360 1360 Level e (omega (arith, ints)) figure_plainly refl;
  short = λ s e. plain s plainly 1361 1360 Short e (omega (arith, ints)) figure_plainly (omega (arith, ints));
  shift = λ s e. switch_shift s 10000 e;
  switched = λ s e. reported (fast s e) 1679 Met (omega arith) figure_switched (omega (arith, ints));
  gap = λ s e. refused (slow s e) (omega arith);
  weighed_once = λ s e. plain s once 0 1360 Met e (omega (arith, ints)) figure_once (omega (arith, ints));
  weighed_twice = λ s e. plain s twice 0 2719 Met e (omega (arith, ints)) figure_twice (omega (arith, ints));
}
