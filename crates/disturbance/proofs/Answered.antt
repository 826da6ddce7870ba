-- Recovery and trigger time from what a scan of the line finds.
use Rattle.std.proofs.Common.{◌≡◌, ℕ, ◌+◌, ◌-◌, ◌≤◌, Bool, true, false, List, Some, None, Option, Decides, MatchOption, refl, inl, inr, arith}
use Rattle.std.specs.Bool.{then_some}
use Rattle.std.proofs.lemmas.Bool.{cases_lt}
use Rattle.exact.specs.First.{First, FirstOrNone}
use Rattle.exact.proofs.First.{answer_as}
use Rattle.recording.specs.declared.sample.Sample.{Sample}
use Rattle.disturbance.specs.declared.disturbance.Disturbance.{Disturbance}
use Rattle.disturbance.specs.Trace.{Sound}
use Rattle.disturbance.specs.Direction.{nominal}
use Rattle.disturbance.specs.Recovery.{recovery_dip, Recovered}
use Rattle.disturbance.specs.Trigger.{Before, Triggered}
use Rattle.disturbance.specs.Passing.{turned, PassedFrom}
use Rattle.disturbance.proofs.Heights.{dip_under, dip_under_back, dip_least, dip_least_back, line_as}

module _ (xs : List Sample) (s : Sound xs) (d : Disturbance) where
  abbrev Above : ℕ → Type 0
  Above = PassedFrom xs (turned d.direction) (nominal - recovery_dip) true (d.time + 1)

  pub recovery_from : (o : Option ℕ) → FirstOrNone Above o → FirstOrNone (Recovered xs d) o
  recovery_from o h =
      answer_as Above (Recovered xs d) o
      (λ u p. (omega (arith, p.0), line_as xs s (λ a b t w q. dip_under_back d.direction recovery_dip a b t (omega arith) w q) u p.1))
      (λ u p. (omega (arith, p.0), line_as xs s (λ a b t w q. dip_under d.direction recovery_dip a b t (omega arith) w q) u p.1))
      h

  module _ (recovery : Option ℕ) (trigger : ℕ) where
    abbrev Reaching : ℕ → Type 0
    Reaching = PassedFrom xs d.direction (nominal + trigger) false d.time

    triggered_reaching : (u : ℕ) → Triggered xs d recovery trigger u → Reaching u
    triggered_reaching u h = (h.0, line_as xs s (λ a b t w p. dip_least d.direction trigger a b t w p) u h.2)

    trigger_first : (t : ℕ) → Before recovery t → First Reaching t → First (Triggered xs d recovery trigger) t
    trigger_first t before f =
        record {
          holds = (f.holds.0, before, line_as xs s (λ a b v w p. dip_least_back d.direction trigger a b v w p) t f.holds.1);
          earlier = λ u less h. f.earlier u less (triggered_reaching u h);
        }

    trigger_none : ((u : ℕ) → Reaching u → ⊥) → (u : ℕ) → Triggered xs d recovery trigger u → ⊥
    trigger_none none u h = none u (triggered_reaching u h)

    before_down : (o : Option ℕ) (t u : ℕ) → t ≤ u → Before o u → Before o t
    before_down None t u le h = tt
    before_down (Some end) t u le h = omega arith

    trigger_late : (t : ℕ) → (Before recovery t → ⊥) → First Reaching t → (u : ℕ) → Triggered xs d recovery trigger u → ⊥
    trigger_late t late f u h =
        elim (cases_lt u t) [
          | inl less ↦ f.earlier u less (triggered_reaching u h)
          | inr more ↦ late (before_down recovery t u more h.1)
        ]

    -- the first that reaches it, kept where it is before any recovery
    trigger_kept : (t : ℕ) (b : Bool) → Decides b (Before recovery t) → First Reaching t → FirstOrNone (Triggered xs d recovery trigger) (then_some b t)
    trigger_kept t true says f = trigger_first t (says.0 refl) f
    trigger_kept t false says f = trigger_late t (λ before. cc (says.1 before)) f

    pub trigger_from : {Keeps : ℕ → Bool → Type 0} (o kept : Option ℕ)
        → ((t : ℕ) (b : Bool) → Keeps t b → Decides b (Before recovery t))
        → FirstOrNone Reaching o
        → MatchOption o (kept ≡ None) (λ t. (b : Bool) × Keeps t b × (kept ≡ then_some b t))
        → FirstOrNone (Triggered xs d recovery trigger) kept
    trigger_from None kept says h is = rw is (trigger_none h)
    trigger_from (Some t) kept says h (b, keeps, is) = rw is (trigger_kept t b (says t b keeps) h)
