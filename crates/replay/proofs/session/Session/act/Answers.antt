-- A load leaves the settings as they were, whether its digits write bytes or not.
use Rattle.std.proofs.Common.{◌≡◌, ℕ, List, Ok, Err, Result, sym, refl, ap, ◌∙◌}
use Rattle.hex.specs.Hex.{decode_of}
use Rattle.hex.specs.declared.error.FromHexError.{FromHexError}
use Rattle.recording.specs.declared.makes.Make.{Make}
use Rattle.recording.specs.Makes.{members_of}
use Rattle.recording.proofs.Chunks.{members_recorded}
use Rattle.replay.specs.declared.reply.Reply.{Reply}
use Rattle.replay.specs.declared.session.Session.{Session}
use Rattle.replay.specs.Sessions.{Loads}
use Rattle.replay.proofs.session.Session.act.Goals as goal

load_leaves : (s t : Session) (make : Make) (digits : List ℕ) (reply : Reply) → Loads s make digits reply t → t.settings ≡ s.settings
load_leaves s t make digits reply h = by (decode_of digits) refl
  where
    by : (o : Result (List ℕ) FromHexError) → decode_of digits ≡ o → t.settings ≡ s.settings
    by (Ok bytes) e = (h.written bytes (members_of make bytes) e (members_recorded make bytes)).terms.settings
    by (Err f) e =
        let none : (bytes : List ℕ) → decode_of digits ≡ Ok bytes → ⊥ = λ bytes is. (let g : ◌≡◌ {A = Result (List ℕ) FromHexError} (Ok bytes) (Err f) = sym is ∙ e in absurd (cc)) in
        ap (λ x. x.settings) (h.other none).1

pub returns-in_ok-load-in-Load-clause-every_trial_puts_the_former_settings_back : goal.returns-in_ok-load-in-Load-clause-every_trial_puts_the_former_settings_back
returns-in_ok-load-in-Load-clause-every_trial_puts_the_former_settings_back c = rw c.in-Load.is (load_leaves _ _ _ _ _ c.in_ok-load-in-Load.ensures)
