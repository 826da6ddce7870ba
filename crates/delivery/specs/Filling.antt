-- A report filled in from two values.
use Rattle.std.specs.Prelude.{◌≡◌, ℕ, ℤ, Option, option_map}
use Rattle.exact.specs.Fractions.{whole}
use Rattle.figure.specs.declared.report.Report.{Report}
use Rattle.figure.specs.Reports.{Judged}
use Rattle.figure.specs.Steps.{lesser_of}
use Rattle.delivery.specs.declared.values.Values.{Values}

pub record Filled (T : ℕ) (recovered : Option ℕ) (values : Values) (amount : ℤ) (report : Report) : Type 0 where
  pub time : report.disturbance ≡ T
  pub recovery : report.recovery ≡ recovered
  pub first : report.first ≡ values.first
  pub second : report.second ≡ values.second
  pub watts : whole report.delivery ≡ lesser_of (whole values.first) (option_map whole values.second)
  pub verdict : Judged report.delivery amount report.verdict
