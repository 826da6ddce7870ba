-- What the calls on a timeline leave.
use Rattle.std.proofs.Common.{◌≡◌, ℕ, suc, ◌+◌, ◌-◌, ◌<◌, ◌≤◌, false, not, List, [], ◌∷◌, ◌++◌, length, get_or, take, drop, set, None, Ok, sym, refl, ap, ◌∙◌, add-one, arith}
use Rattle.std.specs.List.{remove, copy_within}
use Rattle.std.proofs.lemmas.List.{take_at, take-take, drop-take, length-append, length_push, length-set, length-take-le, get_or-append_right, get_or-drop, set_split, set-append_left, append_assoc, take-append-drop}
use Rattle.std.proofs.lemmas.List.Edits.{length-remove}
use Rattle.std.proofs.lemmas.Bool.{not-false, leb-false, or_parts}
use Rattle.recording.specs.declared.refusal.Reason.{Reason}
use Rattle.recording.specs.Refusals.{refusal}
use Rattle.timeline.specs.Checks.{Check, TheFirst, first_of}
use Rattle.timeline.specs.Entries.{Kind}
use Rattle.timeline.specs.Orders.{Ordered, Sound, is_sound, time_before}
use Rattle.timeline.specs.Faults.{append_faults, put_checks, amend_checks, strike_checks}
use Rattle.timeline.specs.Timelines.{over, Stands, Outcome, Edits, Appends, Puts, Amends, Strikes}
use Rattle.timeline.proofs.Checks.{none_found}
use Rattle.timeline.proofs.Orders.{decides_sound, ordered_push, ordered_set, ordered_removed}
use Rattle.timeline.proofs.Faults.{none_outside, append_room}

-- ---- a list laid over a table
pub over_stands : {E : Type 0} (kind : Kind E) (xs old : List E) → Ordered kind xs → Stands kind xs old (length xs) (over xs old)
over_stands kind xs old o =
    let counted : take (length xs) (over xs old) ≡ xs = take_at xs (drop (length xs) old) (length xs) refl in
    record {
      counted = counted;
      sound = record { room = simp length-append (omega arith); ordered = rw counted o };
      beyond = λ i d le.
          let same : length xs + (i - length xs) ≡ i = omega arith in
          get_or-append_right xs (drop (length xs) old) (length xs) i d refl le ∙ get_or-drop (length xs) old (i - length xs) d ∙ ap (λ j. get_or old j d) same;
    }

pub over_push : {E : Type 0} (n : ℕ) (table : List E) (e : E) → n < length table → set table n e ≡ over (take n table ++ e ∷ []) table
over_push n table e lt =
    let len : length (take n table ++ e ∷ []) ≡ suc n = length_push (take n table) e ∙ ap (λ m. m + 1) (length-take-le n table (omega arith)) ∙ add-one n in
    set_split table n e lt ∙ sym (append_assoc (take n table) (e ∷ []) (drop (suc n) table)) ∙ ap (λ m. (take n table ++ e ∷ []) ++ drop m table) (sym len)

pub over_set : {E : Type 0} (n p : ℕ) (table : List E) (e : E) → p < n → n ≤ length table → set table p e ≡ over (set (take n table) p e) table
over_set n p table e lt le =
    let len : length (take n table) ≡ n = length-take-le n table le in
    let all : length (set (take n table) p e) ≡ n = length-set (take n table) p e ∙ len in
    ap (λ l. set l p e) (sym (take-append-drop n table)) ∙ set-append_left (take n table) (drop n table) p e (omega arith) ∙ ap (λ m. set (take n table) p e ++ drop m table) (sym all)

-- the entries after place p moved down by one
moved_down : {E : Type 0} (p n : ℕ) (xs : List E) → p < n → n ≤ length xs → copy_within xs (p + 1) n p ≡ over (remove (take n xs) p) xs
moved_down p n xs lt le =
    let len : length (take n xs) ≡ n = length-take-le n xs le in
    let less : length (remove (take n xs) p) ≡ p + (n - (p + 1)) = omega (arith, length-remove (take n xs) p (omega arith)) in
    let split : (p + 1) + (n - (p + 1)) ≡ n = omega arith in
    let later : drop (suc p) (take n xs) ≡ take (n - (p + 1)) (drop (p + 1) xs) =
    ap (λ m. drop m (take n xs)) (sym (add-one p)) ∙ ap (λ m. drop (p + 1) (take m xs)) (sym split) ∙ drop-take (p + 1) (n - (p + 1)) xs in
    sym (ap (λ m. remove (take n xs) p ++ drop m xs) less
    ∙ ap (λ l. (l ++ drop (suc p) (take n xs)) ++ drop (p + (n - (p + 1))) xs) (take-take p n xs (omega arith))
    ∙ ap (λ l. (take p xs ++ l) ++ drop (p + (n - (p + 1))) xs) later)

-- ---- a call that is accepted
accepted_outcome : {E F : Type 0} (faults : List (Check Reason)) (refused : Reason → F) (xs old : List E) (count : ℕ) (new : List E) → TheFirst faults (first_of faults) → first_of faults ≡ None → count ≡ length xs → new ≡ over xs old → Outcome faults refused xs old (Ok count) new
accepted_outcome faults refused xs old count new first none n w = record { first = first; answer = rw none (ap Ok n); table = rw none w }

accepted : {E : Type 0} (kind : Kind E) (faults : List (Check Reason)) (place : ℕ) (xs old : List E) (count : ℕ) (new : List E) → TheFirst faults (first_of faults) → first_of faults ≡ None → Ordered kind xs → count ≡ length xs → new ≡ over xs old → Edits kind faults place xs old (Ok count) new
accepted kind faults place xs old count new first none o n w =
    record { outcome = accepted_outcome faults (λ why. refusal why place 0) xs old count new first none n w; stands = rw (n, w) (over_stands kind xs old o) }

-- ---- the calls, where no fault was found
pub append_accepted : {E : Type 0} (kind : Kind E) (count : ℕ) (table : List E) (e : E) → TheFirst (append_faults kind (length table) count (time_before kind table count) e) (first_of (append_faults kind (length table) count (time_before kind table count) e)) → first_of (append_faults kind (length table) count (time_before kind table count) e) ≡ None → (more : ℕ) (new : List E) → more ≡ count + 1 → new ≡ set table count e → Appends kind count table e (Ok more) new
append_accepted kind count table e first none more new m w =
    let lt : count < length table = append_room kind (length table) count (time_before kind table count) e none in
    let n : length (take count table ++ e ∷ []) ≡ count + 1 = length_push (take count table) e ∙ ap (λ m. m + 1) (length-take-le count table (omega arith)) in
    accepted_outcome (append_faults kind (length table) count (time_before kind table count) e) (λ why. why) (take count table ++ e ∷ []) table more new first none (m ∙ sym n) (w ∙ over_push count table e lt)

module _ {E : Type 0} (kind : Kind E) (count : ℕ) (table : List E) where
  sound_from : not (is_sound kind count table) ≡ false → Sound kind count table
  sound_from e = (decides_sound kind count table).0 (not-false _ e)

  pub put_accepted : (e : E) → TheFirst (put_checks kind count table e) (first_of (put_checks kind count table e)) → first_of (put_checks kind count table e) ≡ None → (more : ℕ) (new : List E) → more ≡ count + 1 → new ≡ set table count e → Puts kind count table e (Ok more) new
  put_accepted e first none more new m w =
      let faults = put_checks kind count table e in
      let (here, (time, (frequency, (power, (room, (later, _)))))) = none_found (put_checks kind count table e) none in
      let sound = sound_from here in
      let n : length (take count table) ≡ count = length-take-le count table sound.room in
      let lt : count < length table = omega (arith, leb-false (length table) (length (take count table)) (or_parts _ _ room).0) in
      accepted kind faults count (take count table ++ e ∷ []) table more new
      first none
      (ordered_push kind (take count table) e sound.ordered (none_outside (kind.outside e) time frequency power) later)
      (m ∙ sym (length_push (take count table) e ∙ ap (λ k. k + 1) n))
      (w ∙ over_push count table e lt)

  pub amend_accepted : (i : ℕ) (e : E) → TheFirst (amend_checks kind count table i e) (first_of (amend_checks kind count table i e)) → first_of (amend_checks kind count table i e) ≡ None → Amends kind count table i e (Ok count) (set table i e)
  amend_accepted i e first none =
      let faults = amend_checks kind count table i e in
      let (here, (below, (time, (frequency, (power, (between, _)))))) = none_found (amend_checks kind count table i e) none in
      let sound = sound_from here in
      let n : length (take count table) ≡ count = length-take-le count table sound.room in
      let lt = leb-false (length (take count table)) i below in
      accepted kind faults i (set (take count table) i e) table count (set table i e)
      first none
      (ordered_set kind (take count table) i e sound.ordered lt (none_outside (kind.outside e) time frequency power) between)
      (sym (length-set (take count table) i e ∙ n))
      (over_set count i table e (rw n at lt) sound.room)

  pub strike_accepted : (i : ℕ) (new : List E) → TheFirst (strike_checks kind count table i) (first_of (strike_checks kind count table i)) → first_of (strike_checks kind count table i) ≡ None → new ≡ copy_within table (i + 1) count i → Strikes kind count table i (Ok (count - 1)) new
  strike_accepted i new first none w =
      let faults = strike_checks kind count table i in
      let (here, (below, _)) = none_found (strike_checks kind count table i) none in
      let sound = sound_from here in
      let n : length (take count table) ≡ count = length-take-le count table sound.room in
      let lt = leb-false (length (take count table)) i below in
      accepted kind faults i (remove (take count table) i) table (count - 1) new
      first none
      (ordered_removed kind (take count table) i sound.ordered lt)
      (omega (arith, length-remove (take count table) i lt))
      (w ∙ moved_down i count table (rw n at lt) sound.room)
