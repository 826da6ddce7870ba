-- A call on a docket and a table has one outcome.
use Rattle.std.proofs.Common.{◌≡◌, ℕ, Bool, true, false, List, take, Some, None, Ok, Err, Option, Result, MatchResult, ◌⊎◌, inl, inr, sym, refl, ap, ◌∙◌, subst}
use Rattle.std.specs.Bool.{Decides}
use Rattle.std.proofs.lemmas.Bool.Decides.{eqb_tells}
use Rattle.recording.specs.declared.refusal.Reason.{Reason}
use Rattle.recording.specs.declared.refusal.Refusal.{Refusal}
use Rattle.recording.specs.declared.sample.Sample.{Sample}
use Rattle.timeline.specs.Checks.{Check}
use Rattle.timeline.specs.Orders.{Sound, is_sound}
use Rattle.timeline.specs.Samples.{samples}
use Rattle.timeline.specs.Timelines.{Outcome}
use Rattle.timeline.proofs.Orders.{decides_sound}
use Rattle.disturbance.specs.declared.direction.Direction.{Direction}
use Rattle.disturbance.specs.declared.direction.Direction.TheVariants.{Low, High}
use Rattle.disturbance.specs.declared.disturbance.Disturbance.{Disturbance}
use Rattle.disturbance.specs.Disturbance.{Disturbed, Answers}
use Rattle.disturbance.proofs.Found.{disturbance_laws_lem}
use Rattle.figure.specs.declared.report.Report.{Report}
use Rattle.docket.specs.declared.docket.OpenDocket.{OpenDocket}
use Rattle.docket.specs.declared.docket.ClosedDocket.{ClosedDocket}
use Rattle.docket.specs.declared.docket.Kept.{Kept}
use Rattle.figure.specs.Asked.{Asked}
use Rattle.docket.specs.Deliveries.{Belongs, DeliversFrom}
use Rattle.docket.specs.Dockets.{ClosesOn, close_says}
use Rattle.docket.proofs.CloseRule.{trace_sound}
use Rattle.docket.specs.declared.docket.State.{State}
use Rattle.docket.specs.declared.docket.State.TheVariants.{Open, Closed}
use Rattle.calls.specs.declared.turn.Turn.{Turn}
use Rattle.docket.specs.Calls.{Meaning, of_open, of_closed, put, load, amend, strike, close, deliver, reopen}
use Rattle.calls.specs.Outcomes.{Does, counting, closing, delivering}
use Rattle.calls.proofs.Once.{delivered_once, closes_once}

-- ---- a timeline's calls
pub outcome_once : {E F : Type 0} {faults : List (Check Reason)} {refused : Reason → F} {xs old : List E} (r s : Result ℕ F) (new other : List E) → Outcome faults refused xs old r new → Outcome faults refused xs old s other → (r ≡ s) × (new ≡ other)
outcome_once r s new other h k = (h.answer ∙ sym k.answer, h.table ∙ sym k.table)

-- ---- a delivery
same_direction : (a b : Direction) → (a ≡ b) ⊎ (a ≡ b → ⊥)
same_direction Low Low = inl refl
same_direction Low High = inr (λ e. cc)
same_direction High Low = inr (λ e. cc)
same_direction High High = inl refl

same_disturbance : (a b : Disturbance) → (a ≡ b) ⊎ (a ≡ b → ⊥)
same_disturbance a b = elim (eqb_tells a.time b.time) [
  | inl t ↦ elim (same_direction a.direction b.direction) [
    | inl d ↦ inl (ap (λ x. record { time = x; direction = a.direction }) t.1 ∙ ap (λ x. record { time = b.time; direction = x }) d)
    | inr n ↦ inr (λ e. n (ap (λ x. x.direction) e))
  ]
  | inr t ↦ inr (λ e. t.1 (ap (λ x. x.time) e))
]

disturbed_or_not : (xs : List Sample) (o : Option Disturbance) (d : Disturbance) → Answers xs o → Disturbed xs d ⊎ (Disturbed xs d → ⊥)
disturbed_or_not xs None d none = inr (λ k. none k.place k.leaves.holds)
disturbed_or_not xs (Some a) d is = elim (same_disturbance a d) [
  | inl e ↦ inl (subst (Disturbed xs) e is)
  | inr n ↦ inr (λ k. n (disturbance_laws_lem.same xs a d is k))
]

sound_or_not : {P : Type 0} (b : Bool) → Decides b P → P ⊎ (P → ⊥)
sound_or_not true d = inl (d.0 refl)
sound_or_not false d = inr (λ p. let e : false ≡ true = d.1 p in absurd (cc))

sound_table_or_not : (count : ℕ) (table : List Sample) → Sound samples count table ⊎ (Sound samples count table → ⊥)
sound_table_or_not count table = sound_or_not (is_sound samples count table) (decides_sound samples count table)

belongs_or_not : (count : ℕ) (d : Disturbance) (table : List Sample) → Belongs count d table ⊎ (Belongs count d table → ⊥)
belongs_or_not count d table = elim (sound_table_or_not count table) [
  | inl s ↦ elim (disturbed_or_not (take count table) _ d (disturbance_laws_lem.answers (take count table) (trace_sound _ s.ordered))) [
    | inl f ↦ inl (record { sound = s; disturbed = f })
    | inr n ↦ inr (λ b. n b.disturbed)
  ]
  | inr n ↦ inr (λ b. n b.sound)
]

delivers_once : (count : ℕ) (d : Disturbance) (table : List Sample) (q : Asked) (r s : Result Report Refusal) → DeliversFrom count d table q r → DeliversFrom count d table q s → r ≡ s
delivers_once count d table q r s h k = elim (belongs_or_not count d table) [
  | inl b ↦ delivered_once (take count table) q r s (h.own b) (k.own b)
  | inr n ↦ h.other n ∙ sym (k.other n)
]

-- ---- a close
same_close : (d : OpenDocket) (r s : Result ClosedDocket Kept) → MatchResult r (λ c. c.count ≡ d.count) (λ k. k.docket ≡ d) → MatchResult s (λ c. c.count ≡ d.count) (λ k. k.docket ≡ d) → close_says r ≡ close_says s → r ≡ s
same_close d (Ok a) (Ok b) h k e =
    let f : a.disturbance ≡ b.disturbance = cc in
    ap (λ n. Ok (record { count = n; disturbance = a.disturbance })) (h ∙ sym k) ∙ ap (λ x. Ok (record { count = b.count; disturbance = x })) f
same_close d (Ok a) (Err b) h k e = absurd (cc)
same_close d (Err a) (Ok b) h k e = absurd (cc)
same_close d (Err a) (Err b) h k e =
    let f : a.refusal ≡ b.refusal = cc in
    ap (λ x. Err (record { docket = x; refusal = a.refusal })) (h ∙ sym k) ∙ ap (λ x. Err (record { docket = b.docket; refusal = x })) f

closes_on_once : (d : OpenDocket) (table : List Sample) (r s : Result ClosedDocket Kept) → ClosesOn d table r → ClosesOn d table s → r ≡ s
closes_on_once d table r s h k = same_close d r s h.docket_is k.docket_is (elim (sound_table_or_not d.count table) [
  | inl t ↦ closes_once (take d.count table) (close_says r) (close_says s) (h.own t) (k.own t)
  | inr n ↦ h.other n ∙ sym (k.other n)
])

-- ---- a call
both : {t u : Turn} {l m : List Sample} (x : Turn) (y : List Sample) → (t ≡ x) × (l ≡ y) → (u ≡ x) × (m ≡ y) → (t ≡ u) × (l ≡ m)
both x y h k = (h.0 ∙ sym k.0, h.1 ∙ sym k.1)

pub does_once : (state : State) (table : List Sample) (c : Meaning) (t u : Turn) (l m : List Sample) → Does state table c t l → Does state table c u m → (t ≡ u) × (l ≡ m)
does_once (Open d) table (of_open (put r)) t u l m (o, h, e) (p, k, f) = let one = outcome_once o p l m h k in (e ∙ ap (λ x. counting x d.count) one.0 ∙ sym f, one.1)
does_once (Open d) table (of_open (load ms)) t u l m (o, h, e) (p, k, f) = (e ∙ ap (λ x. counting x d.count) (h.answer ∙ sym k.answer) ∙ sym f, h.leaves ∙ sym k.leaves)
does_once (Open d) table (of_open (amend i r)) t u l m (o, h, e) (p, k, f) = let one = outcome_once o p l m h k in (e ∙ ap (λ x. counting x d.count) one.0 ∙ sym f, one.1)
does_once (Open d) table (of_open (strike i)) t u l m (o, h, e) (p, k, f) = let one = outcome_once o p l m h.outcome k.outcome in (e ∙ ap (λ x. counting x d.count) one.0 ∙ sym f, one.1)
does_once (Open d) table (of_open close) t u l m (o, h, e, x) (p, k, f, y) = (e ∙ ap closing (closes_on_once d table o p h k) ∙ sym f, x ∙ sym y)
does_once (Closed d) table (of_closed (deliver q)) t u l m (o, h, e, x) (p, k, f, y) = (e ∙ ap (λ z. delivering z d) (delivers_once d.count d.disturbance table q o p h k) ∙ sym f, x ∙ sym y)
does_once (Closed d) table (of_closed reopen) t u l m h k = both _ _ h k
does_once (Open d) table (of_closed c) t u l m h k = both _ _ h k
does_once (Closed d) table (of_open c) t u l m h k = both _ _ h k
