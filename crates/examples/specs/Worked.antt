-- The worked examples, as one statement about the definitions that the calls answer by.
use Rattle.std.specs.Prelude.{◌≡◌, ℕ, true, false, pos, negsuc, Some, None, Ok, Err}
use Rattle.recording.specs.declared.refusal.Reason.TheVariants.{WideGap}
use Rattle.recording.specs.Refusals.{refusal}
use Rattle.disturbance.specs.Worked.{record_a, disturbance_a, WorkedCases}
use Rattle.response.specs.declared.settings.Settings.{Settings}
use Rattle.response.specs.Settings.{numbers_of, plain_numbers}
use Rattle.response.specs.WorkedWeights.{WorkedWeights}
use Rattle.figure.specs.declared.report.Verdict.TheVariants.{Met, Level, Short}
use Rattle.figure.specs.Asked.{Asked, Times, shift_in}
use Rattle.figure.specs.Worked.{asked_r6, report_of_a, plain_at, plainly, once, twice}
use Rattle.docket.specs.Accepted.{Closes}
use Rattle.docket.specs.Deliveries.{Delivered}
use Rattle.examples.specs.Ties.{Tied}

-- what is asked for R6 by the variable rule with plain settings, and by the switching rule
abbrev pub by_variable : Settings → ℕ → Asked
by_variable s watts = asked_r6 s None plainly watts

abbrev pub by_switching : Settings → Asked
by_switching s = asked_r6 s (Some s.response.switch_dip) once 0

pub record WorkedExamples : Type 0 where
  -- T = 101 just outside the band; on record A T is 20,001, low, and recovery is 20,076
  pub times : WorkedCases
  -- 0.0078125 MW is 7,813 W, and the opposite −7,812 W
  pub tie_up : Tied false (pos 7813)
  pub tie_down : Tied true (negsuc 7811)
  -- 2,000 ms after the disturbance the weights at dips 150, 200, 300 and 450 are 1, 3, 5/3 and 1, and no others
  pub weights : WorkedWeights
  -- a docket with record A closes on that disturbance
  pub closes : Closes record_a (Ok disturbance_a)
  -- what is delivered on it: R6 with plain settings is 1,360 W
  pub met : (s : Settings) → numbers_of s ≡ plain_numbers → Delivered record_a (by_variable s 1359) (Ok (report_of_a 1360 Met))
  pub level : (s : Settings) → numbers_of s ≡ plain_numbers → Delivered record_a (by_variable s 1360) (Ok (report_of_a 1360 Level))
  pub short : (s : Settings) → numbers_of s ≡ plain_numbers → Delivered record_a (by_variable s 1361) (Ok (report_of_a 1360 Short))
  -- by the switching rule at rate 10,000 the trigger time is 20,025, the windows are shifted by 19 and 1,679 W are delivered; at rate 125 a gap is too wide
  pub triggered : (s : Settings) → numbers_of s ≡ plain_at 10000 → Times record_a disturbance_a (by_switching s) (Some 20076) (Some 20025)
  pub shift : (s : Settings) → numbers_of s ≡ plain_at 10000 → shift_in disturbance_a (by_switching s) (Some 20025) ≡ Some (pos 19)
  pub switched : (s : Settings) → numbers_of s ≡ plain_at 10000 → Delivered record_a (by_switching s) (Ok (report_of_a 1679 Met))
  pub gap : (s : Settings) → numbers_of s ≡ plain_numbers → Delivered record_a (by_switching s) (Err (refusal WideGap 0 0))
  -- a rule that weighs everything twice gives another figure than one that weighs it once
  pub weighed_once : (s : Settings) → numbers_of s ≡ plain_numbers → Delivered record_a (asked_r6 s None once 0) (Ok (report_of_a 1360 Met))
  pub weighed_twice : (s : Settings) → numbers_of s ≡ plain_numbers → Delivered record_a (asked_r6 s None twice 0) (Ok (report_of_a 2719 Met))
