-- From what the parts of the code answer to the answer to what is asked.
use Rattle.std.proofs.Common.{◌≡◌, ℕ, List, take, ℤ, IfOk, Some, None, Ok, Err, Option, option_map, Result, sym, refl, ap, ◌∙◌, subst}
use Rattle.std.specs.Option.{ok_or}
use Rattle.std.specs.Result.{IsErrAnd}
use Rattle.exact.specs.Fractions.{Fraction, whole, ◌⊖◌}
use Rattle.recording.specs.declared.refusal.Reason.{Reason}
use Rattle.recording.specs.declared.refusal.Reason.TheVariants.{NoTriggerTime}
use Rattle.recording.specs.declared.refusal.Refusal.{Refusal}
use Rattle.recording.specs.Refusals.{refusal}
use Rattle.timeline.specs.declared.target.Target.{Target}
use Rattle.timeline.specs.Checks.{FirstFault}
use Rattle.exact.specs.First.{FirstOrNone}
use Rattle.disturbance.specs.Recovery.{Recovered}
use Rattle.disturbance.specs.Trace.{Sound}
use Rattle.response.specs.declared.base.BaseWindow.{BaseWindow}
use Rattle.response.specs.declared.setup.Trigger.{Trigger}
use Rattle.response.specs.Groups.{Sound as SoundRow}
use Rattle.response.specs.declared.group.Window.{Window}
use Rattle.disturbance.specs.declared.disturbance.Disturbance.{Disturbance}
use Rattle.recording.specs.declared.sample.Sample.{Sample}
use Rattle.figure.specs.declared.report.Report.{Report}
use Rattle.figure.specs.declared.span.Span.{Span}
use Rattle.exact.specs.Rounding.{half_up}
use Rattle.figure.specs.declared.point.Point.{Point}
use Rattle.figure.specs.Steps.{Case, Weights, to_half_up, power, weighed, used_points, used, base, value, lesser_of}
use Rattle.figure.proofs.Curves.{value_from}
use Rattle.figure.specs.Windows.{shift_of, on_clock, unless_empty}
use Rattle.figure.specs.Asked.{Asked, Times, TriggerTime, shift_in, first_span, second_span, case_of, points_of}
use Rattle.figure.specs.Defects.{defects}
use Rattle.figure.specs.Reports.{Judged, Reports, Delivers}
use Rattle.figure.specs.Exactness.{Faithful}
use Rattle.figure.proofs.Faithful.{reports_are_faithful}
use Rattle.delivery.specs.declared.basis.Basis.{Basis}
use Rattle.delivery.specs.declared.spans.Spans.{Spans}
use Rattle.delivery.specs.declared.values.Values.{Values}
use Rattle.delivery.specs.Areas.{weight_at, value_of}
use Rattle.delivery.specs.Filling.{Filled}
use Rattle.delivery.specs.Checking.{early_defects, span_defects, unplaced}
use Rattle.delivery.proofs.Parts.{early_of, early_first, never_first, spans_first}

-- r is the refusal for this reason, which has no place of its own
abbrev pub Refuses : Reason → Result Report Refusal → Type 0
Refuses why r = IsErrAnd r (λ f. f ≡ refusal why 0 0)

-- the shift, where there is one, and else the reason
pub shift_lost : (o : Option ℤ) (r : Result ℤ Reason) (why : Reason) → r ≡ ok_or o NoTriggerTime → r ≡ Err why → (o ≡ None) × (why ≡ NoTriggerTime)
shift_lost None r why e f = (refl, cc)
shift_lost (Some z) r why e f = cc

pub shift_found : (o : Option ℤ) (r : Result ℤ Reason) (z : ℤ) → r ≡ ok_or o NoTriggerTime → r ≡ Ok z → o ≡ Some z
shift_found None r z e f = cc
shift_found (Some y) r z e f = cc

-- what the code has in hand: the recovery, the rule's trigger and its time, the base window, and the enabled amount
module _ (xs : List Sample) (d : Disturbance) (a : Asked) (recovery S : Option ℕ) (trigger : Option Trigger) (base : BaseWindow) (watts : ℤ) (asks : trigger ≡ a.trigger) (bases : base ≡ a.settings.base) (enables : watts ≡ a.amount)
    (recovers : FirstOrNone (Recovered xs d) recovery) (triggers : TriggerTime xs d recovery trigger S) where
  times : Times xs d a recovery S
  times = record { recovers = recovers; triggers = subst (λ (g : Option Trigger). TriggerTime xs d recovery g S) asks triggers }

  earlier : (r : Option Refusal) → FirstFault (early_defects xs d base a.table a.count a.side watts) r → FirstFault (early_of xs d a) r
  earlier r h =
      subst (λ (w : BaseWindow). FirstFault (early_defects xs d w a.table a.count a.side a.amount) r) bases
      (subst (λ (z : ℤ). FirstFault (early_defects xs d base a.table a.count a.side z) r) enables h)

  pub shifts : {o : Option ℤ} → shift_of a.settings.response.rate.mhz_per_s d.time trigger S ≡ o → shift_in d a S ≡ o
  shifts {o} e = subst (λ (g : Option Trigger). shift_of a.settings.response.rate.mhz_per_s d.time g S ≡ o) asks e

  refused : (why : Reason) (r : Result Report Refusal) → FirstFault (defects xs d a recovery S) (Some (refusal why 0 0)) → Refuses why r → Delivers xs d a r
  refused why (Ok report) h e = absurd e
  refused why (Err f) h e = record { recovery = recovery; trigger_time = S; times = times; defect = Some (refusal why 0 0); first = h; answer = ap Err e }

  pub refused_early : (why : Reason) (r : Result Report Refusal) → FirstFault (early_defects xs d base a.table a.count a.side watts) (unplaced (Some why)) → Refuses why r → Delivers xs d a r
  refused_early why r h e = refused why r (early_first xs d a recovery S times.triggers _ (earlier _ h)) e

  module _ (early : FirstFault (early_defects xs d base a.table a.count a.side watts) None) where
    pub refused_never : (why : Reason) (r : Result Report Refusal) → (shift_in d a S ≡ None) × (why ≡ NoTriggerTime) → Refuses why r → Delivers xs d a r
    refused_never why r none e = refused why r (subst (λ (w : Reason). FirstFault (defects xs d a recovery S) (Some (refusal w 0 0))) (sym none.1) (never_first xs d a recovery S times.triggers (earlier None early) none.0)) e

    -- the windows at the shift
    module _ (z : ℤ) (shifted : shift_in d a S ≡ Some z) (spans : Spans) (first : spans.first ≡ first_span d a recovery z) (second : spans.second ≡ second_span d a recovery z) (widest : spans.widest_gap ≡ a.row.widest_gap) where
      abbrev found : Option Refusal → Type 0
      found r = FirstFault (span_defects xs spans.widest_gap spans.first spans.second) r

      later : (r : Option Refusal) → found r → FirstFault (defects xs d a recovery S) r
      later r h = spans_first xs d a recovery S times.triggers (earlier None early) z r shifted
          (subst (λ (w : Span). FirstFault (span_defects xs a.row.widest_gap (first_span d a recovery z) w) r) second
          (subst (λ (w : Span). FirstFault (span_defects xs a.row.widest_gap w spans.second) r) first
          (subst (λ (n : ℕ). FirstFault (span_defects xs n spans.first spans.second) r) widest h)))

      pub refused_late : (why : Reason) (r : Result Report Refusal) → found (unplaced (Some why)) → Refuses why r → Delivers xs d a r
      refused_late why r h e = refused why r (later _ h) e

      pub reported : (report : Report) → found None → Reports xs d a recovery z report → Delivers xs d a (Ok report)
      reported report h r = record { recovery = recovery; trigger_time = S; times = times; defect = None; first = later None h; answer = (z, report, shifted, refl, r) }

-- ---- the values of windows, as the code works them out from a basis

-- the compensated response from a time and a base
abbrev from : Weights → ℕ → Fraction → Point → ℤ
from weight T b p = half_up (weighed (power p ⊖ b) (weight_at weight T p))

-- counted from the time and the base of a case, its values are the case's
valued : (c : Case) (w : Window) → value_of (from c.weight c.disturbance (base to_half_up c)) (used c) w ≡ value to_half_up c w
valued c w = value_from to_half_up c (base to_half_up c) w refl

valued_each : (f g : Window → Fraction) → ((w : Window) → f w ≡ g w) → (o : Option Window) → option_map f o ≡ option_map g o
valued_each f g e None = refl
valued_each f g e (Some w) = ap (λ (x : Fraction). Some x) (e w)

-- a report that is filled in from the two values is the report
module _ (xs : List Sample) (d : Disturbance) (a : Asked) (recovery : Option ℕ) (z : ℤ) (basis : Basis) (window : BaseWindow) (gs : List Target) (one two : Span) (bases : window ≡ a.settings.base) (first : one ≡ first_span d a recovery z) (second : two ≡ second_span d a recovery z)
    (time : basis.disturbance ≡ d.time) (counted : gs ≡ take a.count a.table) (based : whole basis.base ≡ base to_half_up (record (case_of xs d a recovery z) { targets = gs; base = window })) where
  from_base : whole basis.base ≡ base to_half_up (case_of xs d a recovery z)
  from_base =
      based ∙ ap (λ (hs : List Target). base to_half_up (record (case_of xs d a recovery z) { targets = hs; base = window })) counted
      ∙ ap (λ (w : BaseWindow). base to_half_up (record (case_of xs d a recovery z) { base = w })) bases

  abbrev by : ℕ → Fraction → Window → Fraction
  by T b = value_of (from a.weight T b) (used_points recovery (points_of xs d))

  abbrev worked : Window → Fraction
  worked = by basis.disturbance (whole basis.base)

  same : (w : Window) → worked w ≡ value to_half_up (case_of xs d a recovery z) w
  same w = ap (λ (T : ℕ). by T (whole basis.base) w) time ∙ ap (λ (b : Fraction). by d.time b w) from_base ∙ valued (case_of xs d a recovery z) w

  pub fills : (values : Values) (report : Report) → whole values.first ≡ worked (on_clock one) → option_map whole values.second ≡ option_map worked (unless_empty two)
      → (watts : ℤ) → watts ≡ a.amount → Filled d.time recovery values watts report → Reports xs d a recovery z report
  fills values report f s watts enables filled =
      let e = f ∙ ap (λ (w : Span). worked (on_clock w)) first ∙ same (on_clock (first_span d a recovery z)) in
      let h = s ∙ ap (λ (w : Span). option_map worked (unless_empty w)) second ∙ valued_each worked _ same (unless_empty (second_span d a recovery z)) in
      record {
        time = filled.time;
        recovery = filled.recovery;
        first = ap whole filled.first ∙ e;
        second = ap (λ (o : Option ℤ). option_map whole o) filled.second ∙ h;
        watts = filled.watts ∙ ap (λ (x : Fraction). lesser_of x (option_map whole values.second)) e ∙ ap (lesser_of _) h;
        verdict = subst (λ (z : ℤ). Judged report.delivery z report.verdict) enables filled.verdict;
      }

-- a report is faithful
pub made_faithful : (xs : List Sample) (d : Disturbance) (a : Asked) (r : Result Report Refusal) → Sound xs → SoundRow a.row → Delivers xs d a r → IfOk r (λ report. Faithful xs d a report)
made_faithful xs d a (Ok report) sound row h = reports_are_faithful xs d a report sound row h
made_faithful xs d a (Err f) sound row h = tt
