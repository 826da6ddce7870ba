-- Worked deliveries on the four samples of the worked record.
use Rattle.std.specs.Prelude.{◌≡◌, ℕ, [], pos, Some, None, Ok, Err, Option}
use Rattle.std.proofs.Common.{lit≤}
use Rattle.recording.specs.declared.refusal.Reason.TheVariants.{WideGap}
use Rattle.recording.specs.Refusals.{refusal}
use Rattle.disturbance.specs.Worked.{record_a, disturbance_a}
use Rattle.response.specs.declared.service.Service.TheVariants.{R6}
use Rattle.response.specs.declared.settings.Proposal.{Proposal}
use Rattle.response.specs.declared.settings.Settings.{Settings}
use Rattle.response.specs.declared.setup.Trigger.{Trigger}
use Rattle.response.specs.Groups.{row_of}
use Rattle.response.specs.Services.{listed}
use Rattle.response.specs.Settings.{numbers_of, plain_numbers}
use Rattle.response.specs.VariableRule.{variable}
use Rattle.response.specs.Weights.{one}
use Rattle.figure.specs.declared.report.Report.{Report}
use Rattle.figure.specs.declared.report.Verdict.{Verdict}
use Rattle.figure.specs.declared.report.Verdict.TheVariants.{Met, Level, Short}
use Rattle.figure.specs.Steps.{Weights}
use Rattle.figure.specs.Asked.{Asked, shift_in}
use Rattle.figure.specs.Reports.{Delivers}

-- what is asked: R6 with so many watts enabled, and no targets
abbrev pub asked_r6 : Settings → Option Trigger → Weights → ℕ → Asked
asked_r6 s trigger weight watts = record {
  settings = s;
  trigger = trigger;
  weight = weight;
  table = [];
  count = 0;
  side = (listed R6).side;
  row = row_of (listed R6).group;
  amount = pos watts;
}

-- its report of so many watts: the second window is empty
abbrev pub report_of_a : ℕ → Verdict → Report
report_of_a watts verdict = record { disturbance = 20001; recovery = Some 20076; first = pos watts; second = None; delivery = pos watts; verdict = verdict }

-- the plain settings with another ramp rate
abbrev pub plain_at : ℕ → Proposal
plain_at rate = record { rate = rate; reference_dip = 500; dead_band = 150; switch_dip = 200; base_begin = 20000; base_end = 8000 }

-- the meaning of the variable rule with plain settings, of the switching rule, and of one that weighs everything twice
abbrev pub plainly : Weights
plainly = variable plain_numbers.rate plain_numbers.reference_dip plain_numbers.dead_band

abbrev pub once : Weights
once dip offset = one

abbrev pub twice : Weights
twice dip offset = record { n = 2; d = 1; above = lit≤ tt; least = lit≤ tt; most = lit≤ tt }

pub record WorkedDeliveries : Type 0 where
  -- plain settings, variable rule: 1,360 W
  pub met : (s : Settings) → numbers_of s ≡ plain_numbers
      → Delivers record_a disturbance_a (asked_r6 s None plainly 1359) (Ok (report_of_a 1360 Met))
  pub level : (s : Settings) → numbers_of s ≡ plain_numbers
      → Delivers record_a disturbance_a (asked_r6 s None plainly 1360) (Ok (report_of_a 1360 Level))
  pub short : (s : Settings) → numbers_of s ≡ plain_numbers
      → Delivers record_a disturbance_a (asked_r6 s None plainly 1361) (Ok (report_of_a 1360 Short))
  -- rate 10,000, switching rule: the trigger time 20,025 shifts the windows by 19, and 1,679 W are delivered; at rate 125 the gap is too wide
  pub shift : (s : Settings) → numbers_of s ≡ plain_at 10000
      → shift_in disturbance_a (asked_r6 s (Some s.response.switch_dip) once 0) (Some 20025) ≡ Some (pos 19)
  pub switched : (s : Settings) → numbers_of s ≡ plain_at 10000
      → Delivers record_a disturbance_a (asked_r6 s (Some s.response.switch_dip) once 0) (Ok (report_of_a 1679 Met))
  pub gap : (s : Settings) → numbers_of s ≡ plain_numbers
      → Delivers record_a disturbance_a (asked_r6 s (Some s.response.switch_dip) once 0) (Err (refusal WideGap 0 0))
  -- a rule that weighs twice gives another figure than one that weighs once
  pub weighed_once : (s : Settings) → numbers_of s ≡ plain_numbers
      → Delivers record_a disturbance_a (asked_r6 s None once 0) (Ok (report_of_a 1360 Met))
  pub weighed_twice : (s : Settings) → numbers_of s ≡ plain_numbers
      → Delivers record_a disturbance_a (asked_r6 s None twice 0) (Ok (report_of_a 2719 Met))
