-- No report and no refusal changes where a record, its disturbance, the targets and the side are mirrored.
use Rattle.std.proofs.Common.{◌≡◌, ℕ, zero, suc, ◌+◌, ◌-◌, ◌<◌, Bool, true, false, cond, ◌||◌, ◌⊎◌, ◌↔◌, List, [], ◌∷◌, length, get_or, take, ℤ, pos, ◌<ℤ◌, neg_ℤ, Some, None, Option, option_map, Result, sym, refl, ap, ◌∙◌, subst, inl, inr, arith}
use Rattle.std.specs.Prelude.{int_lt, nat_lt}
use Rattle.std.specs.List.{AllZip, AllByRecursion}
use Rattle.std.proofs.Math.Bool.{or_comm}
use Rattle.std.proofs.Math.IntN.{neg_ℤ-neg_ℤ}
use Rattle.std.proofs.Math.Path.{fun_ext}
use Rattle.std.proofs.lemmas.Int.{ints}
use Rattle.std.proofs.lemmas.List.Elements.{AllZip-get_or, length_all_zip}
use Rattle.exact.specs.First.{FirstOrNone}
use Rattle.exact.specs.Fractions.{Fraction, whole, ◌⊕◌, ◌⊖◌, greater}
use Rattle.exact.specs.Lines.{line_from, line}
use Rattle.exact.specs.Averages.{mean}
use Rattle.exact.proofs.First.{answer_as}
use Rattle.recording.specs.Samples.{latest, greatest_power}
use Rattle.recording.specs.declared.refusal.Field.{Field}
use Rattle.recording.specs.declared.refusal.Field.TheVariants.{Time, Power}
use Rattle.recording.specs.declared.refusal.Refusal.{Refusal}
use Rattle.recording.specs.declared.sample.Sample.{Sample}
use Rattle.timeline.specs.declared.target.Target.{Target}
use Rattle.timeline.specs.Checks.{FirstFault}
use Rattle.timeline.specs.Orders.{Sound}
use Rattle.timeline.specs.Targets.{targets}
use Rattle.timeline.proofs.Checks.{fault_over}
use Rattle.disturbance.specs.declared.direction.Direction.{Direction}
use Rattle.disturbance.specs.declared.disturbance.Disturbance.{Disturbance}
use Rattle.disturbance.specs.Direction.{push}
use Rattle.disturbance.specs.Passing.{turned}
use Rattle.disturbance.specs.Recovery.{Recovered}
use Rattle.disturbance.specs.Trigger.{Triggered}
use Rattle.disturbance.specs.Turning.{Mirrorable, mirrored_record, opposite}
use Rattle.disturbance.proofs.Images.{Images, turn_each, images_record, turned_twice, opposite_twice, dip_image, push_image, push_turned, image_at, same_length, recovered_image, triggered_image}
use Rattle.response.specs.declared.group.Window.{Window}
use Rattle.response.specs.declared.service.Side.{Side}
use Rattle.response.specs.declared.service.Side.TheVariants.{Raise, Lower}
use Rattle.response.specs.declared.service.Service.{Service}
use Rattle.response.specs.declared.service.Service.TheVariants.{R6, R60, R5, L6, L60, L5}
use Rattle.response.specs.declared.setup.Trigger.{Trigger}
use Rattle.response.specs.Groups.{row_of}
use Rattle.response.specs.Services.{direction_of, listed}
use Rattle.figure.specs.declared.point.Point.{Point}
use Rattle.figure.specs.declared.report.Report.{Report}
use Rattle.figure.specs.declared.span.Span.{Span}
use Rattle.figure.specs.Points.{turned as point_of, course}
use Rattle.figure.specs.Steps.{Rounding, Case, unrounded, hundredths, to_half_up, power, base_points, used_points, value_of, used, trajectory, rise, push_with, base_push, base, value, lesser_of, delivery}
use Rattle.figure.proofs.Curves.{from_base, value_is}
use Rattle.figure.specs.Asked.{Asked, for_service, TriggerTime, Times, points_of, targets_of, base_samples, first_span, second_span, case_of}
use Rattle.figure.specs.Defects.{Missed, OneMissed, MissedByTargets, NeverTriggered, Beyond, Gapped, EitherWindow, defects}
use Rattle.figure.specs.Exactness.{ExactDelivery}
use Rattle.figure.specs.Reports.{Reports, AnswerIs, Delivers}
use Rattle.figure.specs.TurningLaws.{mirrored_targets, other_side, other_service, mirrored_asked, ServicesAnswer, TurningLaws}
use Rattle.figure.proofs.Alike.{same_fault}

-- ---- points
same_point : (d : Direction) (s t : Sample) → Images s t → point_of d s ≡ point_of (turned d) t
same_point d s t h =
    let e = dip_image d s t h in
    let f = push_image d s t h in
    λ i. record { time = h.time i; dip = e i; push = f i }

same_course : (d : Direction) (xs ys : List Sample) → AllZip Images xs ys → course d xs ≡ course (turned d) ys
same_course d [] [] h = refl
same_course d [] (y ∷ ys) h = absurd h
same_course d (x ∷ xs) [] h = absurd h
same_course d (x ∷ xs) (y ∷ ys) h = let e = same_point d x y h.0 in let f = same_course d xs ys h.1 in cc (e, f)

-- ---- targets

-- two targets are each other's mirror image
record TargetImages (g h : Target) : Type 0 where
  time : g.time ≡ h.time
  power : h.power ≡ neg_ℤ g.power

turn_target : (g h : Target) → TargetImages g h → TargetImages h g
turn_target g h e = record { time = sym e.time; power = sym (ap neg_ℤ e.power ∙ neg_ℤ-neg_ℤ g.power) }

turn_targets : (gs hs : List Target) → AllZip TargetImages gs hs → AllZip TargetImages hs gs
turn_targets [] [] e = tt
turn_targets [] (h ∷ hs) e = absurd e
turn_targets (g ∷ gs) [] e = absurd e
turn_targets (g ∷ gs) (h ∷ hs) e = (turn_target g h e.0, turn_targets gs hs e.1)

images_targets : (gs : List Target) → AllZip TargetImages gs (mirrored_targets gs)
images_targets [] = tt
images_targets (g ∷ gs) = (record { time = refl; power = refl }, images_targets gs)

images_taken : (n : ℕ) (gs hs : List Target) → AllZip TargetImages gs hs → AllZip TargetImages (take n gs) (take n hs)
images_taken zero gs hs e = tt
images_taken (suc n) [] [] e = tt
images_taken (suc n) [] (h ∷ hs) e = absurd e
images_taken (suc n) (g ∷ gs) [] e = absurd e
images_taken (suc n) (g ∷ gs) (h ∷ hs) e = (e.0, images_taken n gs hs e.1)

target_push : (d : Direction) (g h : Target) → TargetImages g h → push d g.power ≡ push (turned d) h.power
target_push d g h e = sym (ap (push (turned d)) e.power ∙ push_turned d g.power)

-- the straight line through targets, turned by a direction
abbrev from_target : Direction → ℕ → Fraction → List Target → ℕ → Fraction
from_target d t v gs u = line_from (λ g. g.time) (λ g. hundredths (push d g.power)) t v gs u

same_from : (d : Direction) (gs hs : List Target) → AllZip TargetImages gs hs → (t s : ℕ) (v w : Fraction) → t ≡ s → v ≡ w → (u : ℕ) → from_target d t v gs u ≡ from_target (turned d) s w hs u
same_from d [] [] e t s v w p q u = q
same_from d [] (h ∷ hs) e t s v w p q u = absurd e
same_from d (g ∷ gs) [] e t s v w p q u = absurd e
same_from d (g ∷ gs) (h ∷ hs) e t s v w p q u =
    let value : hundredths (push d g.power) ≡ hundredths (push (turned d) h.power) = ap hundredths (target_push d g h e.0) in
    let rest = same_from d gs hs e.1 g.time h.time (hundredths (push d g.power)) (hundredths (push (turned d) h.power)) e.0.time value u in
    cc (p, q, e.0.time, value, rest)

same_line : (d : Direction) (gs hs : List Target) → AllZip TargetImages gs hs → (t : ℕ) → line (λ g. g.time) (λ g. hundredths (push d g.power)) gs t ≡ line (λ g. g.time) (λ g. hundredths (push (turned d) g.power)) hs t
same_line d [] [] e t = refl
same_line d [] (h ∷ hs) e t = absurd e
same_line d (g ∷ gs) [] e t = absurd e
same_line d (g ∷ gs) (h ∷ hs) e t = same_from d gs hs e.1 g.time h.time _ _ e.0.time (ap hundredths (target_push d g h e.0)) t

-- the case with the targets hs, in the other direction
abbrev turned_case : Case → List Target → Case
turned_case c hs = record c { direction = turned c.direction; targets = hs }

module _ (r : Rounding) (c : Case) (hs : List Target) (e : AllZip TargetImages c.targets hs) where
  same_trajectory : (t : ℕ) → trajectory r c t ≡ trajectory r (turned_case c hs) t
  same_trajectory t = ap r (same_line c.direction c.targets hs e t)

  same_rise : (t : ℕ) → rise r c t ≡ rise r (turned_case c hs) t
  same_rise t =
      ap (λ x. greater (whole (pos 0)) (x ⊖ trajectory r c t)) (same_trajectory c.disturbance)
      ∙ ap (λ x. greater (whole (pos 0)) (trajectory r (turned_case c hs) c.disturbance ⊖ x)) (same_trajectory t)

  same_push : (gs js : List Target) → AllZip TargetImages gs js → (p : Point) → push_with r c gs p ≡ push_with r (turned_case c hs) js p
  same_push [] [] f p = refl
  same_push [] (j ∷ js) f p = absurd f
  same_push (g ∷ gs) [] f p = absurd f
  same_push (g ∷ gs) (j ∷ js) f p = ap (λ x. power p ⊕ x) (same_rise p.time)

  same_base_push : (p : Point) → base_push r c p ≡ base_push r (turned_case c hs) p
  same_base_push p = same_push c.targets hs e p

-- ---- targets that are sound: the limits of a power reach as far either way
less_turned : (m p : ℤ) → int_lt (neg_ℤ p) (neg_ℤ m) ≡ int_lt m p
less_turned m p = by (int_lt (neg_ℤ p) (neg_ℤ m)) (int_lt m p) refl refl
  where
    by : (s t : Bool) → int_lt (neg_ℤ p) (neg_ℤ m) ≡ s → int_lt m p ≡ t → s ≡ t
    by true true e f = refl
    by true false e f = absurd (omega (arith, ints, e, f))
    by false true e f = absurd (omega (arith, ints, e, f))
    by false false e f = refl

less_turned_back : (m p : ℤ) → int_lt m (neg_ℤ p) ≡ int_lt p (neg_ℤ m)
less_turned_back m p = by (int_lt m (neg_ℤ p)) (int_lt p (neg_ℤ m)) refl refl
  where
    by : (s t : Bool) → int_lt m (neg_ℤ p) ≡ s → int_lt p (neg_ℤ m) ≡ t → s ≡ t
    by true true e f = refl
    by true false e f = absurd (omega (arith, ints, e, f))
    by false true e f = absurd (omega (arith, ints, e, f))
    by false false e f = refl

outside_turned : (m p : ℤ) → (int_lt (neg_ℤ p) (neg_ℤ m) || int_lt m (neg_ℤ p)) ≡ (int_lt p (neg_ℤ m) || int_lt m p)
outside_turned m p = ap (λ b. b || int_lt m (neg_ℤ p)) (less_turned m p) ∙ ap (λ b. int_lt m p || b) (less_turned_back m p) ∙ or_comm (int_lt m p) (int_lt p (neg_ℤ m))

-- a power is outside its limits
abbrev beyond : ℤ → Bool
beyond p = int_lt p (neg_ℤ greatest_power) || int_lt greatest_power p

abbrev outside_by : ℕ → Bool → Option Field
outside_by t power = cond (nat_lt latest t) (Some Time) (cond power (Some Power) None)

same_outside : (g h : Target) → TargetImages g h → targets.outside g ≡ targets.outside h
same_outside g h e =
    ap (λ t. outside_by t (beyond g.power)) e.time ∙ ap (outside_by h.time) (sym (outside_turned greatest_power g.power) ∙ ap beyond (sym e.power))

sound_over : (count : ℕ) (gs hs : List Target) → AllZip TargetImages gs hs → Sound targets count gs → Sound targets count hs
sound_over count gs hs e s =
    let f = images_taken count gs hs e in
    let long = length_all_zip TargetImages (take count gs) (take count hs) f in
    let alike : (i : ℕ) (d : Target) → i < length (take count gs) → TargetImages (get_or (take count gs) i d) (get_or (take count hs) i d) = λ i d less. AllZip-get_or TargetImages (take count gs) (take count hs) i d d f less in
    record {
      room = omega (arith, length_all_zip TargetImages gs hs e, s.room);
      ordered = record {
        within = λ i d less.
            let there : i < length (take count gs) = omega (arith, long, less) in
            sym (same_outside _ _ (alike i d there)) ∙ s.ordered.within i d there;
        rising = λ i d less.
            let next : i + 1 < length (take count gs) = omega (arith, long, less) in
            omega (arith, (alike i d (omega arith)).time, (alike (i + 1) d next).time, s.ordered.rising i d next);
      };
    }

-- ---- times that the targets miss
target_times : (gs hs : List Target) → AllZip TargetImages gs hs → (P : ℕ → Type 0) → AllByRecursion (λ g. P g.time) gs → AllByRecursion (λ g. P g.time) hs
target_times [] [] e P p = tt
target_times [] (h ∷ hs) e P p = absurd e
target_times (g ∷ gs) [] e P p = absurd e
target_times (g ∷ gs) (h ∷ hs) e P p = (subst P e.0.time p.0, target_times gs hs e.1 P p.1)

module _ (gs hs : List Target) (e : AllZip TargetImages gs hs) where
  missed_over : (t : ℕ) → Missed gs t → Missed hs t
  missed_over t (inl before) = inl (target_times gs hs e (λ u. t < u) before)
  missed_over t (inr after) = inr (target_times gs hs e (λ u. u < t) after)

  one_missed_over : (base : List Point) → OneMissed gs base → OneMissed hs base
  one_missed_over ps (k, there, missed) = (k, there, λ p. missed_over _ (missed p))

  by_targets_over : (T : ℕ) (base : List Point) → MissedByTargets gs T base → MissedByTargets hs T base
  by_targets_over T base (some, missed) = (omega (arith, length_all_zip TargetImages gs hs e, some), elim missed [ inl m ↦ inl (missed_over T m) | inr m ↦ inr (one_missed_over base m) ])

-- ---- sides
sides_turn : (side : Side) → direction_of (other_side side) ≡ turned (direction_of side)
sides_turn Raise = refl
sides_turn Lower = refl

side_over : (side : Side) (d : Direction) → direction_of side ≡ d → direction_of (other_side side) ≡ turned d
side_over side d e = sides_turn side ∙ ap turned e

side_back : (side : Side) (d : Direction) → direction_of (other_side side) ≡ turned d → direction_of side ≡ d
side_back side d e = sym (turned_twice (direction_of side)) ∙ ap turned (sym (sides_turn side) ∙ e) ∙ turned_twice d

other_twice : (side : Side) → other_side (other_side side) ≡ side
other_twice Raise = refl
other_twice Lower = refl

services_turn : (s : Service) → ((listed (other_service s)).side ≡ other_side (listed s).side) × ((listed (other_service s)).group ≡ (listed s).group)
services_turn R6 = (refl, refl)
services_turn R60 = (refl, refl)
services_turn R5 = (refl, refl)
services_turn L6 = (refl, refl)
services_turn L60 = (refl, refl)
services_turn L5 = (refl, refl)

-- what is asked with a service, mirrored, is the mirrored asked with the other side's service
for_service_turns : (s : Service) (a : Asked) → mirrored_asked (for_service s a) ≡ for_service (other_service s) (mirrored_asked a)
for_service_turns s a =
    let e = services_turn s in
    let side = sym e.0 in
    let row = ap row_of (sym e.1) in
    λ i. record a { table = mirrored_targets a.table; side = side i; row = row i }

-- ---- records
sample_times : (xs ys : List Sample) → AllZip Images xs ys → (P : ℕ → Type 0) → AllByRecursion (λ s. P s.time) xs → AllByRecursion (λ s. P s.time) ys
sample_times [] [] h P p = tt
sample_times [] (y ∷ ys) h P p = absurd h
sample_times (x ∷ xs) [] h P p = absurd h
sample_times (x ∷ xs) (y ∷ ys) h P p = (subst P h.0.time p.0, sample_times xs ys h.1 P p.1)

module _ (xs ys : List Sample) (h : AllZip Images xs ys) where
  recovered_back : (d : Disturbance) (t : ℕ) → Recovered ys (opposite d) t → Recovered xs d t
  recovered_back d t r = subst (λ e. Recovered xs e t) (opposite_twice d) (recovered_image ys xs (turn_each xs ys h) (opposite d) t r)

  triggered_back : (d : Disturbance) (recovery : Option ℕ) (trigger t : ℕ) → Triggered ys (opposite d) recovery trigger t → Triggered xs d recovery trigger t
  triggered_back d recovery trigger t r = subst (λ e. Triggered xs e recovery trigger t) (opposite_twice d) (triggered_image ys xs (turn_each xs ys h) (opposite d) recovery trigger t r)

  same_recovery : (d : Disturbance) (R : Option ℕ) → FirstOrNone (Recovered xs d) R → FirstOrNone (Recovered ys (opposite d)) R
  same_recovery d R first = answer_as (Recovered xs d) (Recovered ys (opposite d)) R (recovered_image xs ys h d) (recovered_back d) first

  same_trigger : (d : Disturbance) (R : Option ℕ) (g : Option Trigger) (S : Option ℕ) → TriggerTime xs d R g S → TriggerTime ys (opposite d) R g S
  same_trigger d R None S none = none
  same_trigger d R (Some g) S first = answer_as (Triggered xs d R g.dip) (Triggered ys (opposite d) R g.dip) S (triggered_image xs ys h d R g.dip) (triggered_back d R g.dip) first

  never_over : (d : Disturbance) (R : Option ℕ) (g : Option Trigger) → NeverTriggered xs d R g → NeverTriggered ys (opposite d) R g
  never_over d R g n = record { dip = n.dip; has = n.has; never = λ t r. n.never t (triggered_back d R n.dip.dip t r) }

  never_back : (d : Disturbance) (R : Option ℕ) (g : Option Trigger) → NeverTriggered ys (opposite d) R g → NeverTriggered xs d R g
  never_back d R g n = record { dip = n.dip; has = n.has; never = λ t r. n.never t (triggered_image xs ys h d R n.dip.dip t r) }

  beyond_over : (w : Span) → Beyond xs w → Beyond ys w
  beyond_over w (some, side) =
      elim side [
        | inl early ↦ (some, inl (sample_times xs ys h (λ t. w.start <ℤ pos t) early))
        | inr late ↦ (some, inr (sample_times xs ys h (λ t. pos t <ℤ w.end) late))
      ]

  gapped_over : (widest : ℕ) (w : Span) → Gapped xs widest w → Gapped ys widest w
  gapped_over widest w g =
      let earlier = image_at xs ys h (g.place - 1) (omega (arith, g.there)) in
      let here = image_at xs ys h g.place g.there in
      record {
        place = g.place;
        later = g.later;
        there = omega (arith, same_length xs ys h, g.there);
        shares = rw (← earlier.time, ← here.time) g.shares;
        wide = omega (arith, earlier.time, here.time, g.wide);
      }

-- ---- what is asked, with another table and the other side, of another record with the other direction
abbrev image : Asked → List Target → Asked
image a hs = record a { table = hs; side = other_side a.side }

module _ (xs : List Sample) (d : Disturbance) (a : Asked) (ys : List Sample) (hs : List Target) (h : AllZip Images xs ys) (e : AllZip TargetImages a.table hs) where
  same_points : points_of xs d ≡ points_of ys (opposite d)
  same_points = same_course d.direction xs ys h

  taken : AllZip TargetImages (targets_of a) (targets_of (image a hs))
  taken = images_taken a.count a.table hs e

  same_base_samples : base_samples xs d a ≡ base_samples ys (opposite d) (image a hs)
  same_base_samples = ap (base_points d.time a.settings.base) same_points

  same_times : (R S : Option ℕ) → Times xs d a R S → Times ys (opposite d) (image a hs) R S
  same_times R S t = record { recovers = same_recovery xs ys h d R t.recovers; triggers = same_trigger xs ys h d R a.trigger S t.triggers }

  -- ---- defects
  missed_to : MissedByTargets (targets_of a) d.time (base_samples xs d a) → MissedByTargets (targets_of (image a hs)) d.time (base_samples ys (opposite d) (image a hs))
  missed_to m = subst (MissedByTargets (targets_of (image a hs)) d.time) same_base_samples (by_targets_over (targets_of a) (targets_of (image a hs)) taken d.time (base_samples xs d a) m)

  missed_from : MissedByTargets (targets_of (image a hs)) d.time (base_samples ys (opposite d) (image a hs)) → MissedByTargets (targets_of a) d.time (base_samples xs d a)
  missed_from m =
      let n = subst (MissedByTargets (targets_of (image a hs)) d.time) (sym same_base_samples) m in
      by_targets_over (targets_of (image a hs)) (targets_of a) (turn_targets (targets_of a) (targets_of (image a hs)) taken) d.time (base_samples xs d a) n

  -- what holds of either window goes over
  either_over : {P Q : Span → Type 0} (R S : Option ℕ) → ((w : Span) → P w → Q w) → EitherWindow xs d a R S P → EitherWindow xs d a R S Q
  either_over R S over (z, is, either) = (z, is, elim either [ inl p ↦ inl (over (first_span d a R z) p) | inr p ↦ inr (over (second_span d a R z) p) ])

  same_defects : (R S : Option ℕ) (defect : Option Refusal) → FirstFault (defects xs d a R S) defect → FirstFault (defects ys (opposite d) (image a hs) R S) defect
  same_defects R S defect =
      let back = turn_each xs ys h in
      let home = turn_targets a.table hs e in
      let f = same_base_samples in
      let gap = a.row.widest_gap in
      same_fault (
      fault_over (λ wrong is. wrong (side_back a.side d.direction is)) (λ wrong is. wrong (side_over a.side d.direction is)) (
      fault_over (λ bad is. bad (sound_over a.count hs a.table home is)) (λ bad is. bad (sound_over a.count a.table hs e is)) (
      fault_over (λ p. sym f ∙ p) (λ p. f ∙ p) (
      fault_over missed_to missed_from (
      fault_over (never_over xs ys h d R a.trigger) (never_back xs ys h d R a.trigger) (
      same_fault (
      fault_over (either_over R S (beyond_over xs ys h)) (either_over R S (beyond_over ys xs back)) (
      fault_over (either_over R S (gapped_over xs ys h gap)) (either_over R S (gapped_over ys xs back gap)) (λ p. p)))))))))

  -- ---- values
  module _ (r : Rounding) (R : Option ℕ) (z : ℤ) where
    abbrev one : Case
    one = case_of xs d a R z

    abbrev other : Case
    other = case_of ys (opposite d) (image a hs) R z

    same_base : base r one ≡ base r other
    same_base = ap (λ f. r (mean f (base_samples xs d a))) (fun_ext (same_base_push r one (targets_of (image a hs)) taken)) ∙ ap (λ ps. r (mean (base_push r other) ps)) same_base_samples

    same_value : (w : Window) → value r one w ≡ value r other w
    same_value w = value_is r one w ∙ ap (λ b. value_of r (from_base r one b) (used one) w) same_base ∙ ap (λ ps. value_of r (from_base r one (base r other)) (used_points R ps) w) same_points ∙ sym (value_is r other w)

    same_values : value r one ≡ value r other
    same_values = fun_ext same_value

  same_delivery : (r : Rounding) (R : Option ℕ) (z : ℤ) → delivery r (case_of xs d a R z) ≡ delivery r (case_of ys (opposite d) (image a hs) R z)
  same_delivery r R z =
      let c = case_of xs d a R z in
      ap (λ value. lesser_of (value c.first) (option_map value c.second)) (same_values r R z)

  -- ---- answers
  same_reports : (R : Option ℕ) (z : ℤ) (report : Report) → Reports xs d a R z report → Reports ys (opposite d) (image a hs) R z report
  same_reports R z report q =
      let f = same_values to_half_up R z in
      let c = case_of xs d a R z in
      record {
        time = q.time;
        recovery = q.recovery;
        first = q.first ∙ ap (λ value. value c.first) f;
        second = q.second ∙ ap (λ value. option_map value c.second) f;
        watts = q.watts ∙ same_delivery to_half_up R z;
        verdict = q.verdict;
      }

  same_answer : (R S : Option ℕ) (defect : Option Refusal) (r : Result Report Refusal) → AnswerIs xs d a R S defect r → AnswerIs ys (opposite d) (image a hs) R S defect r
  same_answer R S (Some f) r is = is
  same_answer R S None r (z, report, shifted, is, reports) = (z, report, shifted, is, same_reports R z report reports)

  delivers_over : (r : Result Report Refusal) → Delivers xs d a r → Delivers ys (opposite d) (image a hs) r
  delivers_over r given = record {
    recovery = given.recovery;
    trigger_time = given.trigger_time;
    times = same_times given.recovery given.trigger_time given.times;
    defect = given.defect;
    first = same_defects given.recovery given.trigger_time given.defect given.first;
    answer = same_answer given.recovery given.trigger_time given.defect r given.answer;
  }

  exact_over : (x : Fraction) → ExactDelivery xs d a x → ExactDelivery ys (opposite d) (image a hs) x
  exact_over x given = record {
    recovery = given.recovery;
    trigger_time = given.trigger_time;
    times = same_times given.recovery given.trigger_time given.times;
    shift = given.shift;
    shifted = given.shifted;
    is = given.is ∙ same_delivery unrounded given.recovery given.shift;
  }

-- ---- the mirror image, and what is asked again of it
module _ (xs : List Sample) (d : Disturbance) (a : Asked) (m : Mirrorable xs) where
  images : AllZip Images xs (mirrored_record xs)
  images = images_record xs m

  back : AllZip Images (mirrored_record xs) xs
  back = turn_each xs (mirrored_record xs) images

  home : AllZip TargetImages (mirrored_targets a.table) a.table
  home = turn_targets a.table (mirrored_targets a.table) (images_targets a.table)

  again : (P : List Sample → Disturbance → Asked → Type 0) → P xs (opposite (opposite d)) (image (mirrored_asked a) a.table) → P xs d a
  again P p =
      let s = other_twice a.side in
      let same : image (mirrored_asked a) a.table ≡ a = λ i. record a { side = s i } in
      subst (P xs d) same (subst (λ e. P xs e (image (mirrored_asked a) a.table)) (opposite_twice d) p)

answers_turn : (xs : List Sample) (d : Disturbance) (a : Asked) (r : Result Report Refusal) → Mirrorable xs
    → (Delivers xs d a r ↔ Delivers (mirrored_record xs) (opposite d) (mirrored_asked a) r)
answers_turn xs d a r m = (
  delivers_over xs d a (mirrored_record xs) (mirrored_targets a.table) (images xs d a m) (images_targets a.table) r,
  λ given. again xs d a m (λ ys e b. Delivers ys e b r) (delivers_over (mirrored_record xs) (opposite d) (mirrored_asked a) xs a.table (back xs d a m) (home xs d a m) r given),
)

exact_delivery_turns : (xs : List Sample) (d : Disturbance) (a : Asked) (x : Fraction) → Mirrorable xs
    → (ExactDelivery xs d a x ↔ ExactDelivery (mirrored_record xs) (opposite d) (mirrored_asked a) x)
exact_delivery_turns xs d a x m = (
  exact_over xs d a (mirrored_record xs) (mirrored_targets a.table) (images xs d a m) (images_targets a.table) x,
  λ given. again xs d a m (λ ys e b. ExactDelivery ys e b x) (exact_over (mirrored_record xs) (opposite d) (mirrored_asked a) xs a.table (back xs d a m) (home xs d a m) x given),
)

services_answer : ServicesAnswer
services_answer xs d a s r m =
    subst (λ b. Delivers xs d (for_service s a) r ↔ Delivers (mirrored_record xs) (opposite d) b r) (for_service_turns s a) (answers_turn xs d (for_service s a) r m)

pub turning_laws_lem : TurningLaws
turning_laws_lem = record {
  points_turn = λ d xs m. sym (same_course d xs (mirrored_record xs) (images_record xs m));
  trajectory_turns = λ r c t. sym (same_trajectory r c (mirrored_targets c.targets) (images_targets c.targets) t);
  base_push_turns = λ r c p. sym (same_base_push r c (mirrored_targets c.targets) (images_targets c.targets) p);
  sound_targets_turn = λ count gs. (sound_over count gs (mirrored_targets gs) (images_targets gs), sound_over count (mirrored_targets gs) gs (turn_targets gs (mirrored_targets gs) (images_targets gs)));
  sides_turn = sides_turn;
  answers_turn = answers_turn;
  exact_delivery_turns = exact_delivery_turns;
  services_turn = services_turn;
  services_answer = services_answer;
}
