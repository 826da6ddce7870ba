-- The text of a report, and that there is no other.
use Rattle.std.proofs.Common.{◌≡◌, ℕ, List, None, Result, sym, ap, ◌∙◌, subst}
use Rattle.recording.specs.declared.refusal.Refusal.{Refusal}
use Rattle.recording.specs.declared.interface.Member.{Member}
use Rattle.recording.specs.declared.makes.Make.TheVariants.{Whole}
use Rattle.recording.specs.Makes.{Recorded}
use Rattle.response.specs.declared.settings.Settings.{Settings}
use Rattle.response.specs.declared.service.Service.{Service}
use Rattle.response.specs.declared.variable.Variable.{Variable}
use Rattle.response.specs.VariableRule.{factor_of}
use Rattle.figure.specs.Asked.{Asked}
use Rattle.response.specs.Settings.{numbers_of, plain_numbers}
use Rattle.report.specs.declared.settlement.Delivery.{Delivery}
use Rattle.report.specs.Settlements.{bare, Settles}
use Rattle.report.specs.Texts.{outcome_text}
use Rattle.report.specs.Reports.{places, variable_of, variably, Reports}
use Rattle.response.proofs.Alike.{same_settings}

-- what is asked under settings and a variable rule
abbrev pub asking : Settings → Variable → Service → Asked
asking s v = bare s None (factor_of v)

module _ (bytes : List ℕ) (n : ℕ) (ms : List Member) (s : Settings) (v : Variable) (o : Result (List Delivery) Refusal) (size : n ≡ places) (plain : numbers_of s ≡ plain_numbers) (own : v ≡ variable_of s) where
  pub reports : Recorded Whole bytes ms → Settles n ms (asking s v) o → (t : List ℕ) → t ≡ outcome_text o → Reports bytes t
  reports recorded settled t is =
      let here : Settles places ms (asking s v) o = subst (λ (k : ℕ). Settles k ms (asking s v) o) size settled in
      record { members = ms; settings = s; outcome = o; recorded = recorded; plain = plain; settled = subst (λ (w : Variable). Settles places ms (asking s w) o) own here; is = is }

  pub only_report : ((ns : List Member) → Recorded Whole bytes ns → ns ≡ ms) → ((p : Result (List Delivery) Refusal) → Settles n ms (asking s v) p → p ≡ o) → (t : List ℕ) → t ≡ outcome_text o → (u : List ℕ) → Reports bytes u → u ≡ t
  only_report members only t is u r =
      let same : Settles places ms (variably r.settings) r.outcome = subst (λ (ns : List Member). Settles places ns (variably r.settings) r.outcome) (members r.members r.recorded) r.settled in
      let here : Settles places ms (variably s) r.outcome = subst (λ (x : Settings). Settles places ms (variably x) r.outcome) (same_settings r.settings s (r.plain ∙ sym plain)) same in
      let ruled : Settles places ms (asking s v) r.outcome = subst (λ (w : Variable). Settles places ms (asking s w) r.outcome) (sym own) here in
      r.is ∙ ap outcome_text (only r.outcome (subst (λ (k : ℕ). Settles k ms (asking s v) r.outcome) (sym size) ruled)) ∙ sym is
