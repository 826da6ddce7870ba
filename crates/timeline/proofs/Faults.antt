-- The faults of each call: their tests tell, and what is known where none applies.
use Rattle.std.proofs.Common.{◌≡◌, ℕ, ◌+◌, ◌<◌, ◌≤◌, true, false, List, [], ◌∷◌, length, take, Some, None, Ok, Err, Decides, Option, Result, MatchResult, sym, refl, ap, ◌∙◌, arith}
use Rattle.std.proofs.lemmas.List.{length-take-le}
use Rattle.std.proofs.lemmas.Bool.{leb-false, or_parts, not-false}
use Rattle.std.proofs.lemmas.Bool.Decides.{Decides-or, Decides-not}
use Rattle.recording.specs.declared.refusal.Field.{Field}
use Rattle.recording.specs.declared.refusal.Field.TheVariants.{Time, Frequency, Power}
use Rattle.recording.specs.declared.refusal.Reason.{Reason}
use Rattle.timeline.specs.Checks.{Check, first_of, Allows}
use Rattle.timeline.specs.declared.end.End.{End}
use Rattle.timeline.specs.Ends.{end}
use Rattle.timeline.specs.Entries.{Kind}
use Rattle.timeline.specs.Orders.{time_before, is_sound}
use Rattle.timeline.specs.Faults.{other_table, is_field, full, out_of_order, outside_limits, append_faults, put_faults, put_checks}
use Rattle.timeline.proofs.Checks.{Told, none_found, ok_none, done_as}
use Rattle.timeline.proofs.Orders.{decides_leb, decides_misplaced, decides_sound, before_take}

decides_field : (f : Field) (o : Option Field) → Decides (is_field f o) (o ≡ Some f)
decides_field f None = (λ e. grind arith, λ e. grind arith)
decides_field Time (Some Time) = (λ e. refl, λ e. refl)
decides_field Time (Some Frequency) = (λ e. grind arith, λ e. grind arith)
decides_field Time (Some Power) = (λ e. grind arith, λ e. grind arith)
decides_field Frequency (Some Time) = (λ e. grind arith, λ e. grind arith)
decides_field Frequency (Some Frequency) = (λ e. refl, λ e. refl)
decides_field Frequency (Some Power) = (λ e. grind arith, λ e. grind arith)
decides_field Power (Some Time) = (λ e. grind arith, λ e. grind arith)
decides_field Power (Some Frequency) = (λ e. grind arith, λ e. grind arith)
decides_field Power (Some Power) = (λ e. refl, λ e. refl)

pub none_outside : (o : Option Field) → is_field Time o ≡ false → is_field Frequency o ≡ false → is_field Power o ≡ false → o ≡ None
none_outside None t f p = refl
none_outside (Some Time) t f p = grind arith
none_outside (Some Frequency) t f p = grind arith
none_outside (Some Power) t f p = grind arith

module _ {E : Type 0} (kind : Kind E) where
  pub told_limits : (e : E) (next : List (Check Reason)) → Told next → Told (outside_limits kind e next)
  told_limits e next t = (decides_field Time (kind.outside e), (decides_field Frequency (kind.outside e), (decides_field Power (kind.outside e), t)))

  pub told_table : (count : ℕ) (table : List E) (next : List (Check Reason)) → Told next → Told (other_table kind count table ∷ next)
  told_table count table next t = (Decides-not _ (decides_sound kind count table), t)

  pub told_append : (places count : ℕ) (before : Option ℕ) (e : E) → Told (append_faults kind places count before e)
  told_append places count before e = told_limits e (full kind places count ∷ out_of_order before None (kind.time e) ∷ []) (Decides-or _ _ (decides_leb places count) (decides_leb kind.most count), (decides_misplaced before None (kind.time e), tt))

  told_put : (count : ℕ) (table : List E) (e : E) → Told (put_checks kind count table e)
  told_put count table e = told_table count table (put_faults kind (length table) (take count table) e) (told_append (length table) (length (take count table)) (time_before kind (take count table) (length (take count table))) e)

  -- ---- in a table that is sound
  pub past_table : (count : ℕ) (table : List E) (next : List (Check Reason)) → true ≡ is_sound kind count table → first_of next ≡ first_of (other_table kind count table ∷ next)
  past_table count table next h = let e : is_sound kind count table ≡ true = sym h in rw e refl

  -- a table that its check lets through is sound
  pub sound_allowed : (count : ℕ) (table : List E) → Allows (other_table kind count table ∷ []) (tt {0}) (Ok (tt {0})) → true ≡ is_sound kind count table
  sound_allowed count table a = sym (not-false (is_sound kind count table) (none_found (other_table kind count table ∷ []) (ok_none (first_of (other_table kind count table ∷ [])) (tt {0}) (tt {0}) a.answer)).0)

  -- what is put at the end is added after the counted entries
  module _ (count : ℕ) (table : List E) (e : E) (h : true ≡ is_sound kind count table) where
    put_as_append : first_of (append_faults kind (length table) count (time_before kind table count) e) ≡ first_of (put_checks kind count table e)
    put_as_append =
        let room : count ≤ length table = ((decides_sound kind count table).0 (sym h)).room in
        let n : length (take count table) ≡ count = length-take-le count table room in
        let same : append_faults kind (length table) count (time_before kind table count) e ≡ put_faults kind (length table) (take count table) e =
        rw n (ap (λ before. append_faults kind (length table) count before e) (sym (before_take kind count table))) in
        ap first_of same ∙ past_table count table (put_faults kind (length table) (take count table) e) h

    pub put_allows : (r : Result End Reason) → Allows (append_faults kind (length table) count (time_before kind table count) e) (end (length table) (count + 1) (Some (kind.time e))) r → MatchResult r (λ _. Allows (put_checks kind count table e) (tt {0}) (Ok (tt {0}))) (λ why. Allows (put_checks kind count table e) (tt {0}) (Err why))
    put_allows r a = done_as _ _ _ r put_as_append (told_put count table e) a

  -- an entry that may be added has a place
  pub append_room : (places count : ℕ) (before : Option ℕ) (e : E) → first_of (append_faults kind places count before e) ≡ None → count < places
  append_room places count before e h =
      let (_, (_, (_, (room, _)))) = none_found (append_faults kind places count before e) h in
      leb-false places count (or_parts _ _ room).0
