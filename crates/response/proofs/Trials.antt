-- What a trial of a base window gives.
use Rattle.std.proofs.Common.{◌≡◌, ℕ, Result, sym, ap, ◌∙◌, subst₂}
use Rattle.recording.specs.declared.refusal.Refusal.{Refusal}
use Rattle.response.specs.declared.base.BaseWindow.{BaseWindow}
use Rattle.response.specs.declared.settings.Settings.{Settings}
use Rattle.response.specs.Limits.{IsBase}
use Rattle.response.specs.Settings.{with_base}
use Rattle.response.specs.Trials.{Tried}
use Rattle.response.proofs.Alike.{same_base}

pub tried_with : {X : Type 0} (task : Settings → Result X Refusal) (s : Settings) (v : BaseWindow) {begin end : ℕ} (r : Result X Refusal) → v.begin ≡ begin → v.end ≡ end → r ≡ task (with_base s v) → Tried task s begin end r
tried_with task s v r p q e = record {
  refused = λ n. absurd (n (subst₂ IsBase p q v.within));
  done = λ w p' q'. e ∙ ap (λ u. task (with_base s u)) (same_base v w (p ∙ sym p') (q ∙ sym q'));
}
