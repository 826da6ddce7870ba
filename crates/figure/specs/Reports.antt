-- The report of a delivery, and the answer to what is asked: the report, or the first defect.
use Rattle.std.specs.Prelude.{◌≡◌, ℕ, List, ℤ, ◌<ℤ◌, Some, None, Ok, Err, Option, option_map, Result}
use Rattle.exact.specs.Fractions.{whole}
use Rattle.recording.specs.declared.refusal.Refusal.{Refusal}
use Rattle.timeline.specs.Checks.{FirstFault}
use Rattle.recording.specs.declared.sample.Sample.{Sample}
use Rattle.disturbance.specs.declared.disturbance.Disturbance.{Disturbance}
use Rattle.figure.specs.declared.report.Report.{Report}
use Rattle.figure.specs.declared.report.Verdict.{Verdict}
use Rattle.figure.specs.declared.report.Verdict.TheVariants.{Met, Level, Short}
use Rattle.figure.specs.Steps.{to_half_up, first_value, second_value, delivery}
use Rattle.figure.specs.Asked.{Asked, Times, shift_in, case_of}
use Rattle.figure.specs.Defects.{defects}

-- the verdict on a delivery against the enabled amount: met above it, level if equal, short below
abbrev pub Judged : ℤ → ℤ → Verdict → Type 0
Judged watts amount Met = amount <ℤ watts
Judged watts amount Level = watts ≡ amount
Judged watts amount Short = watts <ℤ amount

-- the report holds T, recovery or none, the first value, the second or none, the delivery and the verdict, every step half-up
pub record Reports (xs : List Sample) (d : Disturbance) (a : Asked) (recovered : Option ℕ) (shift : ℤ) (report : Report) : Type 0 where
  pub time : report.disturbance ≡ d.time
  pub recovery : report.recovery ≡ recovered
  pub first : whole report.first ≡ first_value to_half_up (case_of xs d a recovered shift)
  pub second : option_map whole report.second ≡ second_value to_half_up (case_of xs d a recovered shift)
  pub watts : whole report.delivery ≡ delivery to_half_up (case_of xs d a recovered shift)
  pub verdict : Judged report.delivery a.amount report.verdict

-- where a defect applies the answer is its refusal, else it is the report at the shift
abbrev pub AnswerIs : List Sample → Disturbance → Asked → Option ℕ → Option ℕ → Option Refusal → Result Report Refusal
    → Type 0
AnswerIs xs d a recovery S (Some f) r = r ≡ Err f
AnswerIs xs d a recovery S None r = (shift : ℤ) × (report : Report) × (shift_in d a S ≡ Some shift) × (r ≡ Ok report)
    × Reports xs d a recovery shift report

-- r is the answer to what is asked
pub record Delivers (xs : List Sample) (d : Disturbance) (a : Asked) (r : Result Report Refusal) : Type 0 where
  pub recovery : Option ℕ
  pub trigger_time : Option ℕ
  pub times : Times xs d a recovery trigger_time
  pub defect : Option Refusal
  pub first : FirstFault (defects xs d a recovery trigger_time) defect
  pub answer : AnswerIs xs d a recovery trigger_time defect r
