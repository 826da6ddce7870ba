-- The shift: where there is one, and what holds at it.
use Rattle.std.proofs.Common.{◌≡◌, ℕ, List, ℤ, Some, None, Option, refl, subst}
use Rattle.recording.specs.declared.sample.Sample.{Sample}
use Rattle.disturbance.specs.declared.disturbance.Disturbance.{Disturbance}
use Rattle.disturbance.specs.Trigger.{Triggered}
use Rattle.response.specs.declared.setup.Trigger.{Trigger}
use Rattle.figure.specs.Windows.{shift_of}
use Rattle.figure.specs.Asked.{TriggerTime}
use Rattle.figure.specs.Defects.{NeverTriggered, AtShift}

-- where there is a shift, a trigger is reached
pub shift_triggers : (xs : List Sample) (d : Disturbance) (recovery : Option ℕ) (rate : ℕ) (trigger : Option Trigger) (S : Option ℕ) (z : ℤ) → TriggerTime xs d recovery trigger S → shift_of rate d.time trigger S ≡ Some z → NeverTriggered xs d recovery trigger → ⊥
shift_triggers xs d recovery rate None S z times e never = let has = never.has in cc
shift_triggers xs d recovery rate (Some g) None z times e never = cc
shift_triggers xs d recovery rate (Some g) (Some t) z times e never =
    let has = never.has in
    let same : g ≡ never.dip = cc in
    never.never t (subst (λ (f : Trigger). Triggered xs d recovery f.dip t) same times.holds)

-- what fails at the shift fails at every one
pub at_shift : (o : Option ℤ) (z : ℤ) (P : ℤ → Type 0) → o ≡ Some z → (P z → ⊥) → AtShift o P → ⊥
at_shift o z P e never (y, f, p) = let same : y ≡ z = cc in never (subst P same p)

-- where there is none, none is
pub no_shift : (xs : List Sample) (d : Disturbance) (recovery : Option ℕ) (rate : ℕ) (trigger : Option Trigger) (S : Option ℕ) → TriggerTime xs d recovery trigger S → shift_of rate d.time trigger S ≡ None → NeverTriggered xs d recovery trigger
no_shift xs d recovery rate None S times e = cc
no_shift xs d recovery rate (Some g) None times e = record { dip = g; has = refl; never = times }
no_shift xs d recovery rate (Some g) (Some t) times e = cc
