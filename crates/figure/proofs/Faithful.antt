-- Reports against the exact delivery: less than one watt off, and fair.
use Rattle.std.proofs.Common.{◌≡◌, ℕ, List, ◌+◌, ◌≤◌, ℤ, ◌<ℤ◌, Some, None, Ok, Option, refl, subst, mul-le-mul_right, arith}
use borrow.Author.Differences.{up, down, ints}
use Rattle.exact.specs.Fractions.{Fraction, whole, ◌≼◌}
use Rattle.exact.proofs.Naturals.{reads_self, reads_whole, ≼-in}
use Rattle.exact.proofs.Near.{Under, under_out, under_strict, Near}
use Rattle.exact.proofs.Order.{≺-not-≼}
use Rattle.recording.specs.declared.refusal.Refusal.{Refusal}
use Rattle.disturbance.specs.Trace.{Sound}
use Rattle.response.specs.Groups.{Sound as SoundRow}
use Rattle.timeline.specs.Checks.{FirstFault}
use Rattle.recording.specs.declared.sample.Sample.{Sample}
use Rattle.disturbance.specs.declared.disturbance.Disturbance.{Disturbance}
use Rattle.figure.specs.declared.report.Report.{Report}
use Rattle.figure.specs.declared.report.Verdict.{Verdict}
use Rattle.figure.specs.Steps.{unrounded, delivery}
use Rattle.figure.specs.Asked.{Asked, Times, shift_in, case_of}
use Rattle.figure.specs.Defects.{defects}
use Rattle.figure.specs.Reports.{Judged, Reports, AnswerIs}
use Rattle.figure.specs.Exactness.{WithinOneWatt, Fair, Faithful}
use Rattle.figure.specs.Laws.{ReportsAreFaithful}
use Rattle.figure.proofs.Rising.{rises_course}
use Rattle.figure.proofs.Bound.{value_error, delivery_near}
use Rattle.figure.proofs.Standing.{windows_stand}

-- ---- whole watts within the error of a value of x
at_least : (watts amount : ℤ) (x : Fraction) → Under value_error (whole watts) x → amount <ℤ watts → whole amount ≼ x
at_least watts amount x near more =
    let apart : up amount + down watts + 1 ≤ up watts + down amount = omega (arith, ints, more) in
    ≼-in (reads_whole amount) reads_self (omega (arith, under_out (reads_whole watts) reads_self near, mul-le-mul_right x.bottom apart))

at_most : (watts amount : ℤ) (x : Fraction) → Under value_error x (whole watts) → watts <ℤ amount → x ≼ whole amount
at_most watts amount x near less =
    let apart : up watts + down amount + 1 ≤ up amount + down watts = omega (arith, ints, less) in
    ≼-in reads_self (reads_whole amount) (omega (arith, under_out reads_self (reads_whole watts) near, mul-le-mul_right x.bottom apart))

pub near_watt : {x y : Fraction} → Near value_error x y → WithinOneWatt x y
near_watt near = record { below = under_strict (omega arith) near.over; above = under_strict (omega arith) near.under }

pub near_fair : (watts amount : ℤ) (x : Fraction) (verdict : Verdict) → Near value_error (whole watts) x → Judged watts amount verdict → Fair x amount verdict
near_fair watts amount x verdict near judged = record {
  below = λ less met. ≺-not-≼ less (at_least watts amount x near.over (subst (Judged watts amount) met judged));
  above = λ more short. ≺-not-≼ more (at_most watts amount x near.under (subst (Judged watts amount) short judged));
}

-- ---- the report at a shift
module _ (xs : List Sample) (d : Disturbance) (a : Asked) (report : Report) (sound : Sound xs) (row : SoundRow a.row) (recovery S : Option ℕ) (times : Times xs d a recovery S) where
  faithful_at : (z : ℤ) → shift_in d a S ≡ Some z → FirstFault (defects xs d a recovery S) None → Reports xs d a recovery z report → Faithful xs d a report
  faithful_at z shifted clear reports =
      let standing = windows_stand xs d a recovery S z row clear shifted in
      let exact = delivery unrounded (case_of xs d a recovery z) in
      let near : Near value_error (whole report.delivery) exact =
      rw reports.watts (delivery_near (case_of xs d a recovery z) (rises_course d.direction xs sound) standing.proper standing.proper_second) in
      record {
        exact = exact;
        is_exact = record { recovery = recovery; trigger_time = S; times = times; shift = z; shifted = shifted; is = refl };
        near = near_watt near;
        fair = near_fair report.delivery a.amount exact report.verdict near reports.verdict;
      }

  faithful_by : (defect : Option Refusal) → FirstFault (defects xs d a recovery S) defect → AnswerIs xs d a recovery S defect (Ok report) → Faithful xs d a report
  faithful_by (Some f) first answer = cc
  faithful_by None first (z, p, shifted, is, reports) = let e : p ≡ report = cc in faithful_at z shifted first (subst (Reports xs d a recovery z) e reports)

pub reports_are_faithful : ReportsAreFaithful
reports_are_faithful xs d a report sound row h = faithful_by xs d a report sound row h.recovery h.trigger_time h.times h.defect h.first h.answer
