-- The reasons against a reading are those against its sample.
use Rattle.std.proofs.Common.{◌≡◌, ℕ, Bool, true, false, cond, not, leb, List, [], ◌∷◌, ◌++◌, length, take, set, Some, None, Ok, Err, Option, Result, MatchResult, subst, sym, refl, ap, ◌∙◌}
use Rattle.std.specs.Option.{option_or, option_to_list}
use Rattle.recording.specs.declared.refusal.Field.{Field}
use Rattle.recording.specs.declared.refusal.Field.TheVariants.{Time, Frequency, Power}
use Rattle.recording.specs.declared.refusal.Reason.{Reason}
use Rattle.recording.specs.declared.refusal.Reason.TheVariants.{OutsideLimits, OtherTable, BeyondCount}
use Rattle.recording.specs.declared.refusal.Refusal.{Refusal}
use Rattle.recording.specs.Refusals.{refusal}
use Rattle.recording.specs.declared.sample.Sample.{Sample}
use Rattle.recording.specs.declared.reading.Reading.{Reading}
use Rattle.recording.specs.Readings.{time_of, sampled}
use Rattle.std.specs.Result.{result_and, result_ok, result_err}
use Rattle.timeline.specs.Checks.{Check, first_of, Allows}
use Rattle.timeline.specs.Entries.{Kind}
use Rattle.timeline.specs.Samples.{samples}
use Rattle.timeline.specs.Orders.{is_sound, time_before, time_after}
use Rattle.timeline.specs.Faults.{other_table, is_field, outside_limits, full, out_of_order, append_faults, put_checks, amend_checks, strike_checks}
use Rattle.timeline.specs.Timelines.{answered, written, Outcome, Puts, Amends}
use Rattle.timeline.proofs.Checks.{Told, the_first, ok_none, err_some}
use Rattle.timeline.proofs.Orders.{decides_leb, decides_misplaced}
use Rattle.timeline.proofs.Faults.{told_table, told_append, told_limits}
use Rattle.docket.specs.Dockets.{PutsReading, AmendsReading}
use Rattle.docket.specs.Reasons.{readings, samples_in, replaced, amended, put_reasons, amend_reasons}
use Rattle.docket.proofs.Limits.{sampled_within, sampled_time}

-- ---- an entry within its limits, and one that is not
pub past_limits : {E : Type 0} (kind : Kind E) (e : E) (next : List (Check Reason)) → kind.outside e ≡ None → first_of (outside_limits kind e next) ≡ first_of next
past_limits kind e next h = simp h

field_first_at : (f : Field) (next : Option Reason) → cond (is_field Time (Some f)) (Some (OutsideLimits Time)) (cond (is_field Frequency (Some f)) (Some (OutsideLimits Frequency)) (cond (is_field Power (Some f)) (Some (OutsideLimits Power)) next)) ≡ Some (OutsideLimits f)
field_first_at Time next = refl
field_first_at Frequency next = refl
field_first_at Power next = refl

pub field_first : {E : Type 0} (kind : Kind E) (e : E) (f : Field) (next : List (Check Reason)) → kind.outside e ≡ Some f → first_of (outside_limits kind e next) ≡ Some (OutsideLimits f)
field_first kind e f next h = simp h (field_first_at f (first_of next))

-- ---- a reading and its sample
reading_within : (r : Reading) (s : Sample) → sampled r ≡ Ok s → readings.outside r ≡ None
reading_within r s e = ap result_err e

pub append_same : (places count : ℕ) (before : Option ℕ) (r : Reading) (s : Sample) → sampled r ≡ Ok s → first_of (append_faults samples places count before s) ≡ first_of (append_faults readings places count before r)
append_same places count before r s e =
    past_limits samples s (full samples places count ∷ out_of_order before None s.time ∷ []) (sampled_within r s e)
    ∙ ap (λ (t : ℕ). first_of (full samples places count ∷ out_of_order before None t ∷ [])) (sampled_time r s e)
    ∙ sym (past_limits readings r (full readings places count ∷ out_of_order before None (time_of r) ∷ []) (reading_within r s e))

pub amend_same : (before after : Option ℕ) (r : Reading) (s : Sample) → sampled r ≡ Ok s → first_of (outside_limits samples s (out_of_order before after s.time ∷ [])) ≡ first_of (outside_limits readings r (out_of_order before after (time_of r) ∷ []))
amend_same before after r s e =
    past_limits samples s (out_of_order before after s.time ∷ []) (sampled_within r s e)
    ∙ ap (λ (t : ℕ). first_of (out_of_order before after t ∷ [])) (sampled_time r s e)
    ∙ sym (past_limits readings r (out_of_order before after (time_of r) ∷ []) (reading_within r s e))

-- ---- an outcome by other reasons that come to the same
pub outcome_as : {F : Type 0} (cs ds : List (Check Reason)) (refused : Reason → F) (xs ys old : List Sample) (r : Result ℕ F) (new : List Sample) → first_of cs ≡ first_of ds → xs ≡ ys → Told ds → Outcome cs refused xs old r new → Outcome ds refused ys old r new
outcome_as cs ds refused xs ys old r new e x t o =
    record { first = the_first ds t; answer = simp (← e, ← x) o.answer; table = simp (← e, ← x) o.table }

-- ---- put and amend of a reading, by those of its sample
told_put : (n : ℕ) (t : List Sample) (r : Reading) → Told (other_table samples n t ∷ put_reasons (length t) (take n t) r)
told_put n t r = told_table samples n t (put_reasons (length t) (take n t) r) (told_append readings (length t) (length (take n t)) (time_before samples (take n t) (length (take n t))) r)

pub put_reading_lem : (n : ℕ) (t : List Sample) (r : Reading) (s : Sample) (a : Result ℕ Refusal) (new : List Sample) → sampled r ≡ Ok s → Puts samples n t s a new → PutsReading n t r a new
put_reading_lem n t r s a new e p =
    outcome_as (put_checks samples n t s) (other_table samples n t ∷ put_reasons (length t) (take n t) r) (λ why. refusal why n 0) (take n t ++ s ∷ []) (take n t ++ samples_in r) t a new
    (ap (λ (o : Option Reason). cond (not (is_sound samples n t)) (Some OtherTable) o) (append_same (length t) (length (take n t)) (time_before samples (take n t) (length (take n t))) r s e))
    (ap (λ (x : Result Sample Field). take n t ++ option_to_list (result_ok x)) (sym e))
    (told_put n t r)
    p.outcome

told_amend : (xs : List Sample) (i : ℕ) (r : Reading) → Told (amend_reasons xs i r)
told_amend xs i r = (decides_leb (length xs) i, told_limits readings r (out_of_order (time_before samples xs i) (time_after samples xs i) (time_of r) ∷ []) (decides_misplaced (time_before samples xs i) (time_after samples xs i) (time_of r), tt))

pub amend_reading_lem : (n : ℕ) (t : List Sample) (i : ℕ) (r : Reading) (s : Sample) (a : Result ℕ Refusal) (new : List Sample) → sampled r ≡ Ok s → Amends samples n t i s a new → AmendsReading n t i r a new
amend_reading_lem n t i r s a new e p =
    outcome_as (amend_checks samples n t i s) (other_table samples n t ∷ amend_reasons (take n t) i r) (λ why. refusal why i 0) (set (take n t) i s) (amended (take n t) i r) t a new
    (ap (λ (o : Option Reason). cond (not (is_sound samples n t)) (Some OtherTable) (cond (leb (length (take n t)) i) (Some BeyondCount) o)) (amend_same (time_before samples (take n t) i) (time_after samples (take n t) i) r s e))
    (ap (replaced (take n t) i) (sym e))
    (told_table samples n t (amend_reasons (take n t) i r) (told_amend (take n t) i r))
    p.outcome

-- ---- a reading with a field outside its limits
refused_outcome : (cs : List (Check Reason)) (why : Reason) (place : ℕ) (xs old : List Sample) → Told cs → first_of cs ≡ Some why → Outcome cs (λ w. refusal w place 0) xs old (Err (refusal why place 0)) old
refused_outcome cs why place xs old t e =
    record { first = the_first cs t; answer = ap (answered (λ w. refusal w place 0) (length xs)) (sym e); table = ap (λ (o : Option Reason). written o xs old) (sym e) }

-- the first fault of a list, or else that of what follows it
first_by_test : (b : Bool) (why : Reason) (here more rest : Option Reason) → more ≡ option_or here rest → cond b (Some why) more ≡ option_or (cond b (Some why) here) rest
first_by_test true why here more rest e = refl
first_by_test false why here more rest e = e

first_in_turn : (cs ds : List (Check Reason)) → first_of (cs ++ ds) ≡ option_or (first_of cs) (first_of ds)
first_in_turn [] ds = refl
first_in_turn (c ∷ cs) ds = first_by_test c.test c.answer (first_of cs) (first_of (cs ++ ds)) (first_of ds) (first_in_turn cs ds)

-- refused by what is checked in front, and else for the field
outside_told : (front next : List (Check Reason)) (place : ℕ) (xs t : List Sample) (r : Reading) (f : Field) (checked : Result (Unit {0}) Reason) (told : Result ℕ Reason) (a : Result ℕ Refusal) → Told (front ++ outside_limits readings r next) → sampled r ≡ Err f → Allows front (tt {0}) checked → told ≡ result_and checked (Err (OutsideLimits f)) → MatchResult told (λ x. a ≡ Ok x) (λ why. a ≡ Err (refusal why place 0)) → Outcome (front ++ outside_limits readings r next) (λ why. refusal why place 0) xs t a t
outside_told front next place xs t r f (Ok done) told a all e h q m =
    let is : a ≡ Err (refusal (OutsideLimits f) place 0) = subst (λ (x : Result ℕ Reason). MatchResult x (λ x. a ≡ Ok x) (λ why. a ≡ Err (refusal why place 0))) q m in
    let none : first_of front ≡ None = ok_none _ _ _ h.answer in
    rw is (refused_outcome (front ++ outside_limits readings r next) (OutsideLimits f) place xs t all
    (first_in_turn front (outside_limits readings r next) ∙ ap (λ (o : Option Reason). option_or o (first_of (outside_limits readings r next))) none ∙ field_first readings r f next (ap result_err e)))
outside_told front next place xs t r f (Err why) told a all e h q m =
    let is : a ≡ Err (refusal why place 0) = subst (λ (x : Result ℕ Reason). MatchResult x (λ x. a ≡ Ok x) (λ why. a ≡ Err (refusal why place 0))) q m in
    let some : first_of front ≡ Some why = err_some _ _ _ h.answer in
    rw is (refused_outcome (front ++ outside_limits readings r next) why place xs t all
    (first_in_turn front (outside_limits readings r next) ∙ ap (λ (o : Option Reason). option_or o (first_of (outside_limits readings r next))) some))

-- so put's refusal of a reading once the table is checked, and amend's once a strike is
pub put_outside : (n : ℕ) (t : List Sample) (r : Reading) (f : Field) (checked : Result (Unit {0}) Reason) (told : Result ℕ Reason) (a : Result ℕ Refusal) → sampled r ≡ Err f → Allows (other_table samples n t ∷ []) (tt {0}) checked → told ≡ result_and checked (Err (OutsideLimits f)) → MatchResult told (λ x. a ≡ Ok x) (λ why. a ≡ Err (refusal why n 0)) → PutsReading n t r a t
put_outside n t r f checked told a e h q m =
    let next = full readings (length t) (length (take n t)) ∷ out_of_order (time_before samples (take n t) (length (take n t))) None (time_of r) ∷ [] in
    outside_told (other_table samples n t ∷ []) next n (take n t ++ samples_in r) t r f checked told a (told_put n t r) e h q m

pub amend_outside : (n : ℕ) (t : List Sample) (i : ℕ) (r : Reading) (f : Field) (checked : Result (Unit {0}) Reason) (told : Result ℕ Reason) (a : Result ℕ Refusal) → sampled r ≡ Err f → Allows (strike_checks samples n t i) (tt {0}) checked → told ≡ result_and checked (Err (OutsideLimits f)) → MatchResult told (λ x. a ≡ Ok x) (λ why. a ≡ Err (refusal why i 0)) → AmendsReading n t i r a t
amend_outside n t i r f checked told a e h q m =
    let next = out_of_order (time_before samples (take n t) i) (time_after samples (take n t) i) (time_of r) ∷ [] in
    outside_told (strike_checks samples n t i) next i (amended (take n t) i r) t r f checked told a (told_table samples n t (amend_reasons (take n t) i r) (told_amend (take n t) i r)) e h q m
