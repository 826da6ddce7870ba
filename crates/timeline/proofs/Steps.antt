-- A table looked at entry by entry, and its entries moved down one by one: each step, for whoever walks it so.
use Rattle.std.proofs.Common.{◌≡◌, ℕ, suc, ◌+◌, ◌-◌, ◌<◌, ◌≤◌, true, false, not, ◌&&◌, Bool, leb, List, [], ◌∷◌, ◌++◌, length, get_or, take, drop, set, is_some, Some, None, Ok, Option, sym, refl, ap, ◌∙◌, add-one, arith}
use Rattle.std.specs.List.{remove}
use Rattle.std.proofs.lemmas.List.{at_drop_more, take_more, take-take, drop_more, drop-take, set-append_right, length-drop, length-take-le, get_or-append_right, get_or-drop, append_assoc, take-append-drop}
use Rattle.std.proofs.lemmas.List.Edits.{length-remove}
use Rattle.std.proofs.lemmas.Bool.{le-leb, lt-leb}
use Rattle.recording.specs.declared.refusal.Reason.{Reason}
use Rattle.timeline.specs.Checks.{Check, TheFirst, first_of}
use Rattle.timeline.specs.Entries.{Kind}
use Rattle.timeline.specs.Orders.{misplaced, ordered_after, is_sound, time_before}
use Rattle.timeline.specs.Faults.{append_faults, put_faults}
use Rattle.timeline.specs.Timelines.{answered, over}
use Rattle.timeline.proofs.Checks.{Told, the_first}
use Rattle.timeline.proofs.Orders.{before_take}
use Rattle.timeline.proofs.Faults.{told_append}

-- ---- a check that is known to be the first
pub the_first_at : {A : Type 0} (cs : List (Check A)) (r : Option A) → Told cs → r ≡ first_of cs → TheFirst cs r
the_first_at cs r t e = rw e (the_first cs t)

-- no fault where a call is answered by a value
pub no_fault : {A F : Type 0} (refused : Reason → F) (value u : A) (fault : Option Reason) → Ok u ≡ answered refused value fault → fault ≡ None
no_fault refused value u None e = refl
no_fault refused value u (Some why) e = let z : ◌≡◌ {A = ℕ} 0 1 = cc in absurd (omega arith)

module _ {E : Type 0} (kind : Kind E) where
  -- ---- one entry more of a pass that looks whether they are in order
  pub ordered_next : (before : Option ℕ) (i : ℕ) (xs : List E) (x : E) → i < length xs → x ≡ get_or xs i x → ordered_after kind before (drop i xs) ≡ (not (is_some (kind.outside x)) && (not (misplaced before None (kind.time x)) && ordered_after kind (Some (kind.time x)) (drop (i + 1) xs)))
  ordered_next before i xs x lt read = at_drop_more (ordered_after kind before) xs i x lt ∙ ap (λ y. ordered_after kind before (y ∷ drop (i + 1) xs)) (sym read)

  pub sound_by : (count : ℕ) (table : List E) (b : Bool) → count ≤ length table → b ≡ ordered_after kind None (take count table) → b ≡ is_sound kind count table
  unfolding is_sound
  sound_by count table b le e = let t : leb count (length table) ≡ true = le-leb count (length table) le in rw t e

  pub unsound_by : (count : ℕ) (table : List E) → length table < count → false ≡ is_sound kind count table
  unfolding is_sound
  unsound_by count table lt = let t : leb count (length table) ≡ false = lt-leb count (length table) lt in rw t refl

  -- a turn of the pass, at the entry x
  module _ (before : Option ℕ) (i : ℕ) (xs : List E) (x : E) (lt : i < length xs) (read : x ≡ get_or xs i x) (inv : ordered_after kind before (drop i xs) ≡ ordered_after kind None xs) where
    pub turn_outside : true ≡ is_some (kind.outside x) → false ≡ ordered_after kind None xs
    turn_outside e = let f : is_some (kind.outside x) ≡ true = sym e in sym (sym inv ∙ ordered_next before i xs x lt read ∙ rw f refl)

    pub turn_misplaced : false ≡ is_some (kind.outside x) → true ≡ misplaced before None (kind.time x) → false ≡ ordered_after kind None xs
    turn_misplaced e h =
        let f : is_some (kind.outside x) ≡ false = sym e in
        let m : misplaced before None (kind.time x) ≡ true = sym h in
        sym (sym inv ∙ ordered_next before i xs x lt read ∙ rw (f, m) refl)

    pub turn_more : false ≡ is_some (kind.outside x) → false ≡ misplaced before None (kind.time x) → ordered_after kind (Some (kind.time x)) (drop (i + 1) xs) ≡ ordered_after kind None xs
    turn_more e h =
        let f : is_some (kind.outside x) ≡ false = sym e in
        let m : misplaced before None (kind.time x) ≡ false = sym h in
        sym (sym inv ∙ ordered_next before i xs x lt read ∙ rw (f, m) refl)

  -- ---- what is put at the end is added after the counted entries
  pub told_put : (places : ℕ) (xs : List E) (e : E) → Told (put_faults kind places xs e)
  told_put places xs e = told_append kind places (length xs) (time_before kind xs (length xs)) e

  pub put_appends : (places count : ℕ) (table : List E) (e : E) → count ≤ length table → append_faults kind places count (time_before kind table count) e ≡ put_faults kind places (take count table) e
  put_appends places count table e le =
      let n : length (take count table) ≡ count = length-take-le count table le in
      rw n (ap (λ before. append_faults kind places count before e) (sym (before_take kind count table)))

-- ---- the entries after place p moved down by one, so far as place i
abbrev pub shifted : {E : Type 0} → ℕ → ℕ → List E → List E
shifted p i xs = take p xs ++ (take (i - p) (drop (p + 1) xs) ++ drop i xs)

length_mid : {E : Type 0} (p i : ℕ) (xs : List E) → p ≤ i → i < length xs → length (take (i - p) (drop (p + 1) xs)) ≡ i - p
length_mid p i xs le lt = length-take-le (i - p) (drop (p + 1) xs) (simp length-drop (omega arith))

pub shifted_none : {E : Type 0} (p : ℕ) (xs : List E) → xs ≡ shifted p p xs
shifted_none p xs =
    let z : p - p ≡ 0 = omega arith in
    sym (rw z (take-append-drop p xs))

-- what stands at i + 1 is still what stood there
pub shifted_read : {E : Type 0} (p i : ℕ) (xs : List E) (d : E) → p ≤ i → i + 1 < length xs → get_or (shifted p i xs) (i + 1) d ≡ get_or xs (i + 1) d
shifted_read p i xs d le lt =
    let a : length (take p xs) ≡ p = length-take-le p xs (omega arith) in
    let b : length (take (i - p) (drop (p + 1) xs)) ≡ i - p = length_mid p i xs le (omega arith) in
    let e : (i + 1) - p - (i - p) ≡ 1 = omega arith in
    get_or-append_right (take p xs) (take (i - p) (drop (p + 1) xs) ++ drop i xs) p (i + 1) d a (omega arith)
    ∙ get_or-append_right (take (i - p) (drop (p + 1) xs)) (drop i xs) (i - p) ((i + 1) - p) d b (omega arith)
    ∙ ap (λ j. get_or (drop i xs) j d) e
    ∙ get_or-drop i xs 1 d

pub shifted_more : {E : Type 0} (p i : ℕ) (xs : List E) (d : E) → p ≤ i → i + 1 < length xs → set (shifted p i xs) i (get_or xs (i + 1) d) ≡ shifted p (i + 1) xs
shifted_more p i xs d le lt =
    let y = get_or xs (i + 1) d in
    let a : length (take p xs) ≡ p = length-take-le p xs (omega arith) in
    let b : length (take (i - p) (drop (p + 1) xs)) ≡ i - p = length_mid p i xs le (omega arith) in
    let z : i - p - (i - p) ≡ 0 = omega arith in
    let n : (i + 1) - p ≡ (i - p) + 1 = omega arith in
    let here : (p + 1) + (i - p) ≡ i + 1 = omega arith in
    let wrote : set (drop i xs) 0 y ≡ y ∷ drop (i + 1) xs = ap (λ l. set l 0 y) (drop_more xs i d (omega arith)) in
    let more : take ((i - p) + 1) (drop (p + 1) xs) ≡ take (i - p) (drop (p + 1) xs) ++ (y ∷ []) =
    take_more (drop (p + 1) xs) (i - p) d (simp length-drop (omega arith)) ∙ ap (λ v. take (i - p) (drop (p + 1) xs) ++ (v ∷ [])) (get_or-drop (p + 1) xs (i - p) d ∙ ap (λ j. get_or xs j d) here) in
    set-append_right (take p xs) (take (i - p) (drop (p + 1) xs) ++ drop i xs) p i y a le
    ∙ ap (λ l. take p xs ++ l) (set-append_right (take (i - p) (drop (p + 1) xs)) (drop i xs) (i - p) (i - p) y b (omega arith) ∙ ap (λ j. take (i - p) (drop (p + 1) xs) ++ set (drop i xs) j y) z ∙ ap (λ l. take (i - p) (drop (p + 1) xs) ++ l) wrote ∙ sym (append_assoc (take (i - p) (drop (p + 1) xs)) (y ∷ []) (drop (i + 1) xs)) ∙ ap (λ l. l ++ drop (i + 1) xs) (sym more) ∙ ap (λ j. take j (drop (p + 1) xs) ++ drop (i + 1) xs) (sym n))

pub shifted_over : {E : Type 0} (p i : ℕ) (xs : List E) → p ≤ i → i < length xs → shifted p i xs ≡ over (remove (take (i + 1) xs) p) xs
shifted_over p i xs le lt =
    let n : length (take (i + 1) xs) ≡ i + 1 = length-take-le (i + 1) xs (omega arith) in
    let less : length (remove (take (i + 1) xs) p) ≡ i = omega (arith, length-remove (take (i + 1) xs) p (omega arith)) in
    let split : (p + 1) + (i - p) ≡ i + 1 = omega arith in
    let later : drop (suc p) (take (i + 1) xs) ≡ take (i - p) (drop (p + 1) xs) =
    ap (λ m. drop m (take (i + 1) xs)) (sym (add-one p)) ∙ ap (λ m. drop (p + 1) (take m xs)) (sym split) ∙ drop-take (p + 1) (i - p) xs in
    sym (ap (λ m. remove (take (i + 1) xs) p ++ drop m xs) less
    ∙ append_assoc (take p (take (i + 1) xs)) (drop (suc p) (take (i + 1) xs)) (drop i xs)
    ∙ ap (λ l. l ++ (drop (suc p) (take (i + 1) xs) ++ drop i xs)) (take-take p (i + 1) xs (omega arith))
    ∙ ap (λ l. take p xs ++ (l ++ drop i xs)) later)
