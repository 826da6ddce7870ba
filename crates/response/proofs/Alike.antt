-- Settings are known by their six numbers.
use Rattle.std.proofs.Common.{◌≡◌, ℕ, subst, ap, ◌∙◌}
use Rattle.std.proofs.Math.Bridge.{le_prop}
use Rattle.response.specs.declared.base.BaseWindow.{BaseWindow}
use Rattle.response.specs.declared.settings.Settings.{Settings}
use Rattle.response.specs.declared.setup.Rate.{Rate}
use Rattle.response.specs.declared.setup.Trigger.{Trigger}
use Rattle.response.specs.declared.setup.Response.{Response}
use Rattle.response.specs.Limits.{IsRate, IsReference, IsDeadBand, IsTrigger, IsBase}
use Rattle.response.specs.Settings.{numbers_of}

-- a value that is within its limits is known by what is within them
alike : {X R : Type 0} (P : X → Type 0) (made : (x : X) → P x → R) → ((x : X) → IsProp (P x)) → (x y : X) → x ≡ y → (p : P x) (q : P y) → made x p ≡ made y q
alike P made one x y e = subst (λ z. (p : P x) (q : P z) → made x p ≡ made z q) e (λ p q. ap (made x) (one x p q))

same_rate : (r s : Rate) → r.mhz_per_s ≡ s.mhz_per_s → r ≡ s
same_rate r s e = alike IsRate (λ n h. record { mhz_per_s = n; within = h }) (λ n. hlevel le_prop) r.mhz_per_s s.mhz_per_s e r.within s.within

same_trigger : (g h : Trigger) → g.dip ≡ h.dip → g ≡ h
same_trigger g h e = alike IsTrigger (λ n h. record { dip = n; within = h }) (λ n. hlevel le_prop) g.dip h.dip e g.within h.within

pub same_base : (v w : BaseWindow) → v.begin ≡ w.begin → v.end ≡ w.end → v ≡ w
same_base v w b e =
    let all : ◌≡◌ {A = ℕ × ℕ} (v.begin, v.end) (w.begin, w.end) = ap (λ x. (x, v.end)) b ∙ ap (λ y. (w.begin, y)) e in
    alike (λ (x : ℕ × ℕ). IsBase x.0 x.1) (λ x h. record { begin = x.0; end = x.1; within = h }) (λ x. hlevel le_prop) (v.begin, v.end) (w.begin, w.end) all v.within w.within

-- what a response has beside its limits
pub record Parts : Type 0 where
  pub rate : Rate
  pub reference : ℕ
  pub dead : ℕ
  pub switch : Trigger

abbrev pub parts : Response → Parts
parts r = record { rate = r.rate; reference = r.reference_dip; dead = r.dead_band; switch = r.switch_dip }

same_response : (r s : Response) → r.rate ≡ s.rate → r.reference_dip ≡ s.reference_dip → r.dead_band ≡ s.dead_band → r.switch_dip ≡ s.switch_dip → r ≡ s
same_response r s a b c d =
    let all : parts r ≡ parts s = cc in
    alike (λ x. IsReference x.reference × IsDeadBand x.dead) (λ x h. record { rate = x.rate; reference_dip = x.reference; dead_band = x.dead; switch_dip = x.switch; reference_within = h.0; dead_within = h.1 }) (λ x. hlevel le_prop)
    (parts r) (parts s) all (r.reference_within, r.dead_within) (s.reference_within, s.dead_within)

pub same_settings : (s t : Settings) → numbers_of s ≡ numbers_of t → s ≡ t
same_settings s t e =
    let rate = same_rate s.response.rate t.response.rate (ap (λ p. p.rate) e) in
    let switch = same_trigger s.response.switch_dip t.response.switch_dip (ap (λ p. p.switch_dip) e) in
    let response = same_response s.response t.response rate (ap (λ p. p.reference_dip) e) (ap (λ p. p.dead_band) e) switch in
    let base = same_base s.base t.base (ap (λ p. p.base_begin) e) (ap (λ p. p.base_end) e) in
    ap (λ r. record { response = r; base = s.base }) response ∙ ap (λ w. record { response = t.response; base = w }) base
