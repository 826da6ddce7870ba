-- The two parts in which the code looks for defects, and the one list of them.
use Rattle.std.proofs.Common.{◌≡◌, ℕ, List, [], ◌∷◌, ◌⊎◌, take, ℤ, Some, None, Option, refl, subst, inl, inr}
use Rattle.recording.specs.declared.refusal.Reason.TheVariants.{NoTriggerTime, EmptyFirstWindow, WindowOutside, WideGap}
use Rattle.recording.specs.declared.refusal.Refusal.{Refusal}
use Rattle.recording.specs.Refusals.{refusal}
use Rattle.timeline.specs.Checks.{Fault, FirstFault}
use Rattle.timeline.proofs.Checks.{first_in_front, first_behind, fault_over}
use Rattle.recording.specs.declared.sample.Sample.{Sample}
use Rattle.timeline.specs.declared.target.Target.{Target}
use Rattle.disturbance.specs.declared.disturbance.Disturbance.{Disturbance}
use Rattle.response.specs.declared.service.Side.{Side}
use Rattle.figure.specs.declared.span.Span.{Span}
use Rattle.figure.specs.Windows.{Empty}
use Rattle.figure.specs.Asked.{Asked, TriggerTime, shift_in, first_span, second_span}
use Rattle.figure.specs.Defects.{MissedByTargets, NeverTriggered, Beyond, Gapped, AtShift, FirstWindow, EitherWindow, defects, defect}
use Rattle.figure.proofs.Shifted.{shift_triggers, no_shift}
use Rattle.delivery.specs.declared.footing.Footing.{Footing}
use Rattle.delivery.specs.Footings.{points_on}
use Rattle.delivery.specs.Checking.{early_defects, span_defects}

-- the defects that are looked for first
abbrev pub early_of : List Sample → Disturbance → Asked → List (Fault Refusal)
early_of xs d a = early_defects xs d a.settings.base a.table a.count a.side a.amount

module _ (xs : List Sample) (d : Disturbance) (a : Asked) (recovery S : Option ℕ) (times : TriggerTime xs d recovery a.trigger S) where
  -- those of the windows at a shift, and all that follow on the first
  abbrev spans_at : ℤ → List (Fault Refusal)
  spans_at z = span_defects xs a.row.widest_gap (first_span d a recovery z) (second_span d a recovery z)

  abbrev late : List (Fault Refusal)
  late =
      defect (NeverTriggered xs d recovery a.trigger) NoTriggerTime
      ∷ defect (FirstWindow xs d a recovery S Empty) EmptyFirstWindow
      ∷ defect (EitherWindow xs d a recovery S (Beyond xs)) WindowOutside
      ∷ defect (EitherWindow xs d a recovery S (Gapped xs a.row.widest_gap)) WideGap
      ∷ []

  abbrev Found : Option Refusal → Type 0
  Found r = FirstFault (defects xs d a recovery S) r

  pub early_first : (why : Refusal) → FirstFault (early_of xs d a) (Some why) → Found (Some why)
  early_first why h = first_in_front (early_of xs d a) late _ h

  module _ (early : FirstFault (early_of xs d a) None) where
    after : (r : Option Refusal) → FirstFault late r → Found r
    after r h = first_behind (early_of xs d a) late r early h

    pub never_first : shift_in d a S ≡ None → Found (Some (refusal NoTriggerTime 0 0))
    never_first e = after _ (inl (no_shift xs d recovery _ a.trigger S times e, refl))

    pub spans_first : (z : ℤ) (r : Option Refusal) → shift_in d a S ≡ Some z → FirstFault (spans_at z) r → Found r
    spans_first z r e h =
        after r (inr (
          shift_triggers xs d recovery _ a.trigger S z times e,
          fault_over (put _) (take _) (fault_over (put _) (take _) (fault_over (put _) (take _) (λ p. p))) h,
        ))
      where
        put : (P : ℤ → Type 0) → P z → AtShift (shift_in d a S) P
        put P p = (z, e, p)

        take : (P : ℤ → Type 0) → AtShift (shift_in d a S) P → P z
        take P (y, f, p) = let same : y ≡ z = cc in subst P same p

-- ---- where no defect of a part applies: in the place of each, that it does not; those that what follows rests on by their names
abbrev NoneApply : List (Fault Refusal) → Type 0
NoneApply [] = Unit {0}
NoneApply (f ∷ fs) = (f.Applies → ⊥) × NoneApply fs

none_apply : (fs : List (Fault Refusal)) → FirstFault fs None → NoneApply fs
none_apply [] h = tt
none_apply (f ∷ fs) (inl h) = absurd (cc h.1)
none_apply (f ∷ fs) (inr h) = (h.0, none_apply fs h.1)

pub record EarlyCleared (g : Footing) (gs : List Target) : Type 0 where
  pub base : points_on g ≡ [] → ⊥
  pub reached : MissedByTargets gs g.disturbance.time (points_on g) → ⊥

pub early_cleared : (g : Footing) (table : List Target) (count : ℕ) (side : Side) (amount : ℤ) → FirstFault (early_defects g.trace.samples.now g.disturbance g.window table count side amount) None → EarlyCleared g (take count table)
early_cleared g table count side amount h = by (none_apply (early_defects g.trace.samples.now g.disturbance g.window table count side amount) h)
  where
    by : NoneApply (early_defects g.trace.samples.now g.disturbance g.window table count side amount) → EarlyCleared g (take count table)
    by (fit, (ours, (sound, (base, (reached, rest))))) = record { base = base; reached = reached }

pub record SpansCleared (xs : List Sample) (first second : Span) : Type 0 where
  pub full : Empty first → ⊥
  pub within_first : Beyond xs first → ⊥
  pub within_second : Beyond xs second → ⊥

pub spans_cleared : (xs : List Sample) (widest : ℕ) (first second : Span) → FirstFault (span_defects xs widest first second) None → SpansCleared xs first second
spans_cleared xs widest first second h = by (none_apply (span_defects xs widest first second) h)
  where
    by : NoneApply (span_defects xs widest first second) → SpansCleared xs first second
    by (full, (within, (close, rest))) = record { full = full; within_first = λ b. within (inl b); within_second = λ b. within (inr b) }
