-- What a task gives in a trial of another base window.
use Rattle.std.specs.Prelude.{◌≡◌, ℕ, Ok, Err, Result}
use Rattle.recording.specs.declared.refusal.Refusal.{Refusal}
use Rattle.response.specs.declared.base.BaseWindow.{BaseWindow}
use Rattle.response.specs.declared.settings.Settings.{Settings}
use Rattle.response.specs.Limits.{IsBase, outside}
use Rattle.response.specs.Settings.{with_base}

-- r is the answer to a task in a trial of the window from begin to end: refused outside the limits, else what the task gives with that window
pub record Tried {X : Type 0} (task : Settings → Result X Refusal) (s : Settings) (begin end : ℕ) (r : Result X Refusal) : Type 0 where
  pub refused : (IsBase begin end → ⊥) → r ≡ Err outside
  pub done : (w : BaseWindow) → w.begin ≡ begin → w.end ≡ end → r ≡ task (with_base s w)

-- both answers, or the first refusal
abbrev pub both_of : {X : Type 0} → Result X Refusal → Result X Refusal → Result (X × X) Refusal
both_of (Ok x) (Ok y) = Ok (x, y)
both_of (Ok x) (Err e) = Err e
both_of (Err e) second = Err e
