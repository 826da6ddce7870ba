-- The report of a recording in whole units, under the plain settings and the variable rule.
use Rattle.std.specs.Prelude.{◌≡◌, ℕ, List, None, Result}
use Rattle.recording.specs.declared.refusal.Refusal.{Refusal}
use Rattle.recording.specs.declared.interface.Member.{Member}
use Rattle.recording.specs.declared.makes.Make.TheVariants.{Whole}
use Rattle.recording.specs.Makes.{Recorded}
use Rattle.response.specs.declared.service.Service.{Service}
use Rattle.response.specs.declared.settings.Settings.{Settings}
use Rattle.response.specs.declared.variable.Variable.{Variable}
use Rattle.response.specs.Settings.{numbers_of, plain_numbers}
use Rattle.response.specs.VariableRule.{factor_of}
use Rattle.figure.specs.Asked.{Asked}
use Rattle.report.specs.declared.settlement.Delivery.{Delivery}
use Rattle.report.specs.Settlements.{bare, Settles}
use Rattle.report.specs.Texts.{outcome_text}

-- the places of the table, as many as a docket may hold samples
abbrev pub places : ℕ
places = 4096

-- the variable rule that settings and their own rate make
abbrev pub variable_of : Settings → Variable
variable_of s = record { response = s.response; rate = s.response.rate }

-- what is asked under settings and that rule
abbrev pub variably : Settings → Service → Asked
variably s = bare s None (factor_of (variable_of s))

-- the text of what a docket delivers of the members that the bytes make, under the plain settings, with no targets and nothing enabled
pub record Reports (bytes text : List ℕ) : Type 0 where
  pub members : List Member
  pub settings : Settings
  pub outcome : Result (List Delivery) Refusal
  pub recorded : Recorded Whole bytes members
  pub plain : numbers_of settings ≡ plain_numbers
  pub settled : Settles places members (variably settings) outcome
  pub is : text ≡ outcome_text outcome
