-- A task for the trials: the length of the base window, refused from 10,000 on.
use Rattle.std.specs.Prelude.{ℕ, ◌-◌, cond, Ok, Err, Result, nat_le}
use Rattle.recording.specs.declared.refusal.Reason.TheVariants.{NoBaseSample}
use Rattle.recording.specs.declared.refusal.Refusal.{Refusal}
use Rattle.recording.specs.Refusals.{refusal}
use Rattle.response.specs.declared.settings.Settings.{Settings}

abbrev pub span_of : Settings → Result ℕ Refusal
span_of s = cond (nat_le 10000 (s.base.begin - s.base.end)) (Err (refusal NoBaseSample 0 0)) (Ok (s.base.begin - s.base.end))
