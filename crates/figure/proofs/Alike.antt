-- Records with the same times and frequencies, whatever their powers: the same recovery, trigger time and defects.
use Rattle.std.proofs.Common.{◌≡◌, ℕ, ◌-◌, ◌<◌, ◌⊎◌, Bool, true, false, cond, List, [], ◌∷◌, length, ℤ, pos, ◌<ℤ◌, Some, None, filter, Option, sym, refl, ap, subst, inl, inr, arith}
use Rattle.std.specs.List.{AllZip, AllByRecursion}
use Rattle.std.proofs.lemmas.List.Elements.{AllZip-get_or, length_all_zip}
use Rattle.exact.specs.Fractions.{Fraction, whole, ◌≼◌, ◌≺◌}
use Rattle.exact.proofs.First.{answer_as}
use Rattle.recording.specs.declared.refusal.Refusal.{Refusal}
use Rattle.recording.specs.declared.sample.Sample.{Sample}
use Rattle.timeline.specs.declared.target.Target.{Target}
use Rattle.timeline.specs.Checks.{FirstFault}
use Rattle.timeline.proofs.Checks.{fault_over}
use Rattle.disturbance.specs.declared.direction.Direction.{Direction}
use Rattle.disturbance.specs.declared.disturbance.Disturbance.{Disturbance}
use Rattle.disturbance.specs.Direction.{dip}
use Rattle.disturbance.specs.Line.{line, LineAt}
use Rattle.disturbance.specs.Recovery.{recovery_dip, Recovered}
use Rattle.disturbance.specs.Trace.{at}
use Rattle.disturbance.specs.Trigger.{Triggered}
use Rattle.response.specs.declared.setup.Trigger.{Trigger}
use Rattle.figure.specs.declared.point.Point.{Point}
use Rattle.figure.specs.declared.span.Span.{Span}
use Rattle.figure.specs.Points.{turned, course}
use Rattle.figure.specs.Steps.{is_base}
use Rattle.figure.specs.Asked.{Asked, Times, TriggerTime, targets_of, base_samples, first_span, second_span}
use Rattle.figure.specs.Defects.{Missed, OneMissed, MissedByTargets, NeverTriggered, Beyond, Gapped, EitherWindow, defects}

-- two samples at the same time, of the same frequency
pub record SameFrequency (s t : Sample) : Type 0 where
  pub time : s.time ≡ t.time
  pub frequency : s.frequency ≡ t.frequency

abbrev pub SameFrequencies : List Sample → List Sample → Type 0
SameFrequencies xs ys = AllZip SameFrequency xs ys

pub turn_each : (xs ys : List Sample) → SameFrequencies xs ys → SameFrequencies ys xs
turn_each [] [] h = tt
turn_each [] (y ∷ ys) h = absurd h
turn_each (x ∷ xs) [] h = absurd h
turn_each (x ∷ xs) (y ∷ ys) h = (record { time = sym h.0.time; frequency = sym h.0.frequency }, turn_each xs ys h.1)

-- what holds of every time goes over
all_times : (xs ys : List Sample) → SameFrequencies xs ys → (P : ℕ → Type 0) → AllByRecursion (λ s. P s.time) xs → AllByRecursion (λ s. P s.time) ys
all_times [] [] h P p = tt
all_times [] (y ∷ ys) h P p = absurd h
all_times (x ∷ xs) [] h P p = absurd h
all_times (x ∷ xs) (y ∷ ys) h P p = (subst P h.0.time p.0, all_times xs ys h.1 P p.1)

same_line : (value : ℕ → ℤ) (a b x y : Sample) (t : ℕ) → SameFrequency a x → SameFrequency b y → line value a b t ≡ line value x y t
same_line value a b x y t h k = cc

-- ---- the times of points that a test of times keeps
abbrev SameTimes : List Point → List Point → Type 0
SameTimes ps qs = AllZip (λ p q. p.time ≡ q.time) ps qs

kept_step : (b : Bool) (p q : Point) (ps qs : List Point) → p.time ≡ q.time → SameTimes ps qs → SameTimes (cond b (p ∷ ps) ps) (cond b (q ∷ qs) qs)
kept_step true p q ps qs e h = (e, h)
kept_step false p q ps qs e h = h

kept_times : (d : Direction) (test : ℕ → Bool) (xs ys : List Sample) → SameFrequencies xs ys → SameTimes (filter (λ p. test p.time) (course d xs)) (filter (λ p. test p.time) (course d ys))
kept_times d test [] [] h = tt
kept_times d test [] (y ∷ ys) h = absurd h
kept_times d test (x ∷ xs) [] h = absurd h
kept_times d test (x ∷ xs) (y ∷ ys) h = rw (← ap test h.0.time) (kept_step (test x.time) (turned d x) (turned d y) _ _ h.0.time (kept_times d test xs ys h.1))

still_none : (ps qs : List Point) → SameTimes ps qs → ps ≡ [] → qs ≡ []
still_none [] [] h e = refl
still_none [] (q ∷ qs) h e = absurd h
still_none (p ∷ ps) qs h e = absurd (cc)

one_missed_over : (gs : List Target) (ps qs : List Point) → SameTimes ps qs → OneMissed gs ps → OneMissed gs qs
one_missed_over gs ps qs h (k, there, missed) = (k, omega (arith, length_all_zip _ ps qs h), λ p. subst (Missed gs) (AllZip-get_or _ ps qs k p p h there) (missed p))

missed_over : (gs : List Target) (T : ℕ) (ps qs : List Point) → SameTimes ps qs → MissedByTargets gs T ps → MissedByTargets gs T qs
missed_over gs T ps qs h (some, inl disturbed) = (some, inl disturbed)
missed_over gs T ps qs h (some, inr one) = (some, inr (one_missed_over gs ps qs h one))

-- ---- recovery, trigger time and windows
module _ (xs ys : List Sample) (h : SameFrequencies xs ys) where
  alike_at : (k : ℕ) → k < length xs → SameFrequency (at xs k) (at ys k)
  alike_at k there = AllZip-get_or SameFrequency xs ys k _ _ h there

  -- what P says of the line goes over
  line_over : (P : Fraction → Type 0) (value : ℕ → ℤ) (t : ℕ) → LineAt (λ a b u. P (line value a b u)) xs t → LineAt (λ a b u. P (line value a b u)) ys t
  line_over P value t l =
      let earlier = alike_at (l.place - 1) (omega arith) in
      let here = alike_at l.place l.there in
      record {
        place = l.place;
        later = l.later;
        there = omega (arith, length_all_zip SameFrequency xs ys h);
        after = omega arith;
        until = omega arith;
        holds = subst P (same_line value _ _ _ _ t earlier here) l.holds;
      }

  recovered_over : (d : Disturbance) (t : ℕ) → Recovered xs d t → Recovered ys d t
  recovered_over d t r = (r.0, line_over (λ x. x ≺ whole (pos recovery_dip)) (dip d.direction) t r.1)

  triggered_over : (d : Disturbance) (R : Option ℕ) (trigger t : ℕ) → Triggered xs d R trigger t → Triggered ys d R trigger t
  triggered_over d R trigger t r = (r.0, r.1, line_over (λ x. whole (pos trigger) ≼ x) (dip d.direction) t r.2)

  never_over : (d : Disturbance) (R : Option ℕ) (g : Option Trigger) → NeverTriggered ys d R g → NeverTriggered xs d R g
  never_over d R g n = record { dip = n.dip; has = n.has; never = λ t r. n.never t (triggered_over d R n.dip.dip t r) }

  beyond_over : (w : Span) → Beyond xs w → Beyond ys w
  beyond_over w (some, inl early) = (some, inl (all_times xs ys h (λ t. w.start <ℤ pos t) early))
  beyond_over w (some, inr late) = (some, inr (all_times xs ys h (λ t. pos t <ℤ w.end) late))

  gapped_over : (widest : ℕ) (w : Span) → Gapped xs widest w → Gapped ys widest w
  gapped_over widest w g =
      let earlier = alike_at (g.place - 1) (omega arith) in
      let here = alike_at g.place g.there in
      record {
        place = g.place;
        later = g.later;
        there = omega (arith, length_all_zip SameFrequency xs ys h);
        shares = rw (← earlier.time, ← here.time) g.shares;
        wide = omega arith;
      }

same_trigger : (xs ys : List Sample) → SameFrequencies xs ys → (d : Disturbance) (R : Option ℕ) (g : Option Trigger) (S : Option ℕ) → TriggerTime xs d R g S → TriggerTime ys d R g S
same_trigger xs ys h d R None S none = none
same_trigger xs ys h d R (Some g) S first = answer_as (Triggered xs d R g.dip) (Triggered ys d R g.dip) S (triggered_over xs ys h d R g.dip) (triggered_over ys xs (turn_each xs ys h) d R g.dip) first

-- one fault goes over as it is, and then the rest
pub same_fault : {A W F G : Type 0} → (F → G) → (A × W) ⊎ ((A → ⊥) × F) → (A × W) ⊎ ((A → ⊥) × G)
same_fault rest = fault_over (λ p. p) (λ p. p) rest

-- ---- what is asked, of other samples
module _ (xs : List Sample) (d : Disturbance) (a : Asked) (R S : Option ℕ) (ys : List Sample) (h : SameFrequencies xs ys) where
  abbrev back : SameFrequencies ys xs
  back = turn_each xs ys h

  pub same_times : Times xs d a R S → Times ys d a R S
  same_times t = record {
    recovers = answer_as (Recovered xs d) (Recovered ys d) R (recovered_over xs ys h d) (recovered_over ys xs back d) t.recovers;
    triggers = same_trigger xs ys h d R a.trigger S t.triggers;
  }

  -- what holds of either window goes over
  either_over : {P Q : Span → Type 0} → ((w : Span) → P w → Q w) → EitherWindow xs d a R S P → EitherWindow xs d a R S Q
  either_over over (z, is, inl p) = (z, is, inl (over (first_span d a R z) p))
  either_over over (z, is, inr p) = (z, is, inr (over (second_span d a R z) p))

  pub same_defects : (r : Option Refusal) → FirstFault (defects xs d a R S) r → FirstFault (defects ys d a R S) r
  same_defects r =
      let ps = base_samples xs d a in
      let qs = base_samples ys d a in
      let there = kept_times d.direction (is_base d.time a.settings.base) xs ys h in
      let here = kept_times d.direction (is_base d.time a.settings.base) ys xs back in
      let gap = a.row.widest_gap in
      same_fault (same_fault (same_fault (
      fault_over (still_none ps qs there) (still_none qs ps here) (
      fault_over (missed_over (targets_of a) d.time ps qs there) (missed_over (targets_of a) d.time qs ps here) (
      fault_over (never_over ys xs back d R a.trigger) (never_over xs ys h d R a.trigger) (
      same_fault (
      fault_over (either_over (beyond_over xs ys h)) (either_over (beyond_over ys xs back)) (
      fault_over (either_over (gapped_over xs ys h gap)) (either_over (gapped_over ys xs back gap)) (λ p. p)))))))))
