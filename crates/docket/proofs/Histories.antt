-- What every step keeps, and so every history: the accepted samples are in order and have their places.
use Rattle.std.proofs.Common.{◌≡◌, ℕ, ◌+◌, ◌<◌, ◌≤◌, false, List, [], ◌∷◌, ◌++◌, length, Some, None, Ok, Err, Option, Result, sym, refl, ap, ◌∙◌, subst, append_assoc, append-nil, arith, length-append, length-set}
use Rattle.std.specs.List.{remove}
use Rattle.std.specs.Option.{option_or, option_to_list}
use Rattle.std.specs.Result.{result_ok, result_err}
use Rattle.recording.specs.declared.refusal.Field.{Field}
use Rattle.recording.specs.declared.refusal.Reason.{Reason}
use Rattle.recording.specs.declared.refusal.Refusal.{Refusal}
use Rattle.recording.specs.declared.sample.Sample.{Sample}
use Rattle.recording.specs.declared.reading.Reading.{Reading}
use Rattle.recording.specs.declared.fault.Unreadable.{Unreadable}
use Rattle.recording.specs.declared.interface.Member.{Member}
use Rattle.recording.specs.Readings.{time_of, sampled}
use Rattle.timeline.specs.Checks.{first_of}
use Rattle.timeline.specs.Samples.{samples}
use Rattle.timeline.specs.Orders.{Ordered, time_before, time_after, misplaced}
use Rattle.timeline.specs.Faults.{strike_faults, append_faults}
use Rattle.timeline.proofs.Checks.{none_found}
use Rattle.timeline.proofs.Orders.{ordered_push, ordered_set, ordered_removed}
use Rattle.timeline.proofs.Faults.{none_outside, append_room}
use Rattle.disturbance.specs.declared.disturbance.Disturbance.{Disturbance}
use Rattle.docket.specs.Reasons.{readings, samples_in, replaced, amended, put_reasons, amend_reasons}
use Rattle.docket.specs.Loading.{member_reasons, member_samples, all_samples, time_in, located, load_fault}
use Rattle.docket.specs.Accepted.{Accepted, opened, closed, samples_of, edit, put_edit, amend_edit, strike_edit, load_edit, record_fault, close_record}
use Rattle.docket.specs.Calls.{Meaning, Outcome}
use Rattle.docket.specs.Steps.{Step, put, load, amend, strike, close, deliver, reopen, LeadsTo, History}
use Rattle.std.proofs.lemmas.List.Edits.{length-remove}
use Rattle.std.proofs.lemmas.Bool.{leb-false, or_parts}
use Rattle.docket.specs.Records.{IsTimeline}
use Rattle.docket.proofs.CloseRule.{trace_sound}
use Rattle.docket.proofs.Pushed.{time_pushed}
use Rattle.docket.proofs.Writing.{neither, located_none}
use Rattle.docket.proofs.Limits.{sampled_within, sampled_time}

-- samples in order, in a table of so many places
pub record Fit (places : ℕ) (xs : List Sample) : Type 0 where
  pub ordered : Ordered samples xs
  pub room : length xs ≤ places
  pub few : length xs ≤ 4096

abbrev pub FitRecord : ℕ → Accepted → Type 0
FitRecord places (opened xs) = Fit places xs
FitRecord places (closed xs) = Fit places xs

empty_fit : (places : ℕ) → Fit places []
empty_fit places = record { ordered = record { within = λ i d h. absurd (omega arith); rising = λ i d h. absurd (omega arith) }; room = omega arith; few = omega arith }

-- a reading with no field outside its limits gives a sample
pub given : (x : Result Sample Field) → result_err x ≡ None → (s : Sample) × (x ≡ Ok s)
given (Ok s) e = (s, refl)
given (Err f) e = let z : ◌≡◌ {A = ℕ} 0 1 = cc in absurd (omega arith)

-- ---- one sample more at the end
pub record Grown (places : ℕ) (xs : List Sample) (r : Reading) : Type 0 where
  pub sample : Sample
  pub is : sampled r ≡ Ok sample
  pub fit : Fit places (xs ++ sample ∷ [])

-- a reading that may be added is not one too many
append_few : (places count : ℕ) (before : Option ℕ) (r : Reading) → first_of (append_faults readings places count before r) ≡ None → count < 4096
append_few places count before r h =
    let (_, (_, (_, (room, _)))) = none_found (append_faults readings places count before r) h in
    leb-false 4096 count (or_parts _ _ room).1

pub grown : (places : ℕ) (xs : List Sample) (r : Reading) → Fit places xs → first_of (put_reasons places xs r) ≡ None → Grown places xs r
grown places xs r f e =
    let n = none_found (put_reasons places xs r) e in
    let g = given (sampled r) (none_outside (result_err (sampled r)) n.0 n.1.0 n.1.1.0) in
    let s = g.0 in
    let m : misplaced (time_before samples xs (length xs)) None s.time ≡ false = ap (misplaced (time_before samples xs (length xs)) None) (sampled_time r s g.1) ∙ n.1.1.1.1.0 in
    let room = append_room readings places (length xs) (time_before samples xs (length xs)) r e in
    let few = append_few places (length xs) (time_before samples xs (length xs)) r e in
    record { sample = s; is = g.1; fit = record { ordered = ordered_push samples xs s f.ordered (sampled_within r s g.1) m; room = omega (arith, length-append xs (s ∷ [])); few = omega (arith, length-append xs (s ∷ [])) } }

put_fit : (places : ℕ) (xs : List Sample) (r : Reading) → Fit places xs → Fit places (put_edit places xs r).samples
put_fit places xs r f = by (first_of (put_reasons places xs r)) refl
  where
    by : (o : Option Reason) → first_of (put_reasons places xs r) ≡ o → Fit places (edit (located (length xs) 0 o) (xs ++ samples_in r) xs).samples
    by None e = let g = grown places xs r f e in subst (λ (x : Result Sample Field). Fit places (xs ++ option_to_list (result_ok x))) (sym g.is) g.fit
    by (Some why) e = f

-- ---- one sample replaced, and one taken out
amend_fit : (places : ℕ) (xs : List Sample) (i : ℕ) (r : Reading) → Fit places xs → Fit places (amend_edit xs i r).samples
amend_fit places xs i r f = by (first_of (amend_reasons xs i r)) refl
  where
    by : (o : Option Reason) → first_of (amend_reasons xs i r) ≡ o → Fit places (edit (located i 0 o) (amended xs i r) xs).samples
    by None e =
        let n = none_found (amend_reasons xs i r) e in
        let lt : i < length xs = leb-false (length xs) i n.0 in
        let g = given (sampled r) (none_outside (result_err (sampled r)) n.1.0 n.1.1.0 n.1.1.1.0) in
        let s = g.0 in
        let m : misplaced (time_before samples xs i) (time_after samples xs i) s.time ≡ false = ap (misplaced (time_before samples xs i) (time_after samples xs i)) (sampled_time r s g.1) ∙ n.1.1.1.1.0 in
        subst (λ (x : Result Sample Field). Fit places (replaced xs i x)) (sym g.1) (record { ordered = ordered_set samples xs i s f.ordered lt (sampled_within r s g.1) m; room = simp length-set f.room; few = simp length-set f.few })
    by (Some why) e = f

strike_fit : (places : ℕ) (xs : List Sample) (i : ℕ) → Fit places xs → Fit places (strike_edit xs i).samples
strike_fit places xs i f = by (first_of (strike_faults xs i)) refl
  where
    by : (o : Option Reason) → first_of (strike_faults xs i) ≡ o → Fit places (edit (located i 0 o) (remove xs i) xs).samples
    by None e =
        let lt : i < length xs = leb-false (length xs) i (none_found (strike_faults xs i) e).0 in
        let room = f.room in
        let few = f.few in
        record { ordered = ordered_removed samples xs i f.ordered lt; room = omega (arith, length-remove xs i lt); few = omega (arith, length-remove xs i lt) }
    by (Some why) e = f

-- ---- the samples of all members
one_more : (places : ℕ) (xs : List Sample) (place position : ℕ) (content : Result Reading Unreadable) (ms : List Member) → Fit places xs
    → option_or (located place position (first_of (member_reasons places (length xs) (time_before samples xs (length xs)) content))) (load_fault places (length xs + 1) (time_in content) (place + 1) ms) ≡ None
    → ((ys : List Sample) → Fit places ys → load_fault places (length ys) (time_before samples ys (length ys)) (place + 1) ms ≡ None → Fit places (ys ++ all_samples ms))
    → Fit places (xs ++ (member_samples content ++ all_samples ms))
one_more places xs place position (Err why) ms f e next = let z : ◌≡◌ {A = ℕ} 0 1 = cc in absurd (omega arith)
one_more places xs place position (Ok r) ms f e next =
    let g = grown places xs r f (located_none place position (first_of (put_reasons places xs r)) (neither _ _ e).0) in
    let s = g.sample in
    let ys = xs ++ s ∷ [] in
    let n : length ys ≡ length xs + 1 = length-append xs (s ∷ []) in
    let t : time_before samples ys (length ys) ≡ Some (time_of r) = ap (time_before samples ys) n ∙ time_pushed xs s [] (length xs) refl ∙ ap Some (sampled_time r s g.is) in
    let clear : load_fault places (length ys) (time_before samples ys (length ys)) (place + 1) ms ≡ None =
    ap (λ (k : ℕ). load_fault places k (time_before samples ys (length ys)) (place + 1) ms) n ∙ ap (λ (b : Option ℕ). load_fault places (length xs + 1) b (place + 1) ms) t ∙ (neither _ _ e).1 in
    let is : ys ++ all_samples ms ≡ xs ++ (samples_in r ++ all_samples ms) = append_assoc xs (s ∷ []) (all_samples ms) ∙ ap (λ (x : Result Sample Field). xs ++ (option_to_list (result_ok x) ++ all_samples ms)) (sym g.is) in
    subst (Fit places) is (next ys g.fit clear)

pub all_fit : (places : ℕ) (ms : List Member) (xs : List Sample) (place : ℕ) → Fit places xs → load_fault places (length xs) (time_before samples xs (length xs)) place ms ≡ None → Fit places (xs ++ all_samples ms)
all_fit places [] xs place f e = subst (Fit places) (sym (append-nil xs)) f
all_fit places (m ∷ ms) xs place f e = one_more places xs place m.position m.content ms f e (λ ys g h. all_fit places ms ys (place + 1) g h)

load_fit : (places : ℕ) (xs : List Sample) (ms : List Member) → Fit places xs → Fit places (load_edit places xs ms).samples
load_fit places xs ms f = by (record_fault places xs ms) refl
  where
    by : (o : Option Refusal) → record_fault places xs ms ≡ o → Fit places (edit o (xs ++ all_samples ms) xs).samples
    by None e = all_fit places ms xs 0 f e
    by (Some g) e = f

close_fit : (places : ℕ) (xs : List Sample) (o : Result Disturbance Refusal) → Fit places xs → FitRecord places (close_record xs o)
close_fit places xs (Ok d) f = f
close_fit places xs (Err why) f = f

-- ---- every step, and every history
step_fit : (places : ℕ) (a : Accepted) (c : Meaning) (x : Outcome) (b : Accepted) → Step places a c x b → FitRecord places a → FitRecord places b
step_fit places a c x b (put xs r) f = put_fit places xs r f
step_fit places a c x b (load xs ms) f = load_fit places xs ms f
step_fit places a c x b (amend xs i r) f = amend_fit places xs i r f
step_fit places a c x b (strike xs i) f = strike_fit places xs i f
step_fit places a c x b (close xs o is) f = close_fit places xs o f
step_fit places a c x b (deliver xs q r is) f = f
step_fit places a c x b (reopen xs) f = f

leads_fit : (places : ℕ) (a : Accepted) (calls : List Meaning) (b : Accepted) → LeadsTo places a calls b → FitRecord places a → FitRecord places b
leads_fit places a [] b e f = subst (FitRecord places) e f
leads_fit places a (c ∷ calls) b (x, next, step, rest) f = leads_fit places next calls b rest (step_fit places a c x next step f)

pub history_fit : (places : ℕ) (a : Accepted) → History places a → FitRecord places a
history_fit places a (calls, h) = leads_fit places (opened []) calls a h (empty_fit places)

-- ---- a history with one step more
one_more_step : (places : ℕ) (a : Accepted) (calls : List Meaning) (b : Accepted) (c : Meaning) (x : Outcome) (d : Accepted) → LeadsTo places a calls b → Step places b c x d → LeadsTo places a (calls ++ c ∷ []) d
one_more_step places a [] b c x d e step = (x, d, subst (λ z. Step places z c x d) (sym e) step, refl)
one_more_step places a (k ∷ calls) b c x d (y, next, first, rest) step = (y, next, first, one_more_step places next calls b c x d rest step)

pub grown_history : (places : ℕ) (a : Accepted) (c : Meaning) (x : Outcome) (b : Accepted) → History places a → Step places a c x b → History places b
grown_history places a c x b (calls, h) step = (calls ++ c ∷ [], one_more_step places (opened []) calls a c x b h step)

-- so that they are a timeline
timeline_of : (places : ℕ) (a : Accepted) → FitRecord places a → IsTimeline places (samples_of a)
timeline_of places (opened xs) f = record { sound = trace_sound xs f.ordered; room = f.room; few = f.few }
timeline_of places (closed xs) f = record { sound = trace_sound xs f.ordered; room = f.room; few = f.few }

pub history_timeline : (places : ℕ) (a : Accepted) → History places a → IsTimeline places (samples_of a)
history_timeline places a h = timeline_of places a (history_fit places a h)
