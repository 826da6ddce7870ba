-- Entries in order: what the tests tell.
use Rattle.std.proofs.Common.{◌≡◌, ℕ, zero, suc, ◌+◌, ◌-◌, ◌<◌, ◌≤◌, Bool, true, false, not, leb, ◌⊎◌, List, [], ◌∷◌, ◌++◌, map, length, get_or, take, set, is_some, Some, None, Decides, Option, sym, refl, ap, ◌∙◌, inl, inr, ⊎_elim, add-one, arith}
use Rattle.std.specs.List.{slice_get, remove}
use Rattle.std.proofs.lemmas.List.{get_or-map, length-map, take-map, length_push, get_or_push, get_or_append_left, get_or-set_same, get_or-set_other, length-set}
use Rattle.std.proofs.lemmas.List.Edits.{length-remove, get_or-remove_below, get_or-remove_above}
use Rattle.std.proofs.lemmas.Option.{slice_get-get_or, slice_get_past}
use Rattle.std.proofs.lemmas.Bool.{le-leb, leb-true, and_parts, not-true, not_from_false, cases_lt, cases_eq}
use Rattle.std.proofs.lemmas.Bool.Decides.{Decides-or, Decides-and, not_from_Decides, same_from_decides}
use Rattle.timeline.specs.Entries.{Kind}
use Rattle.timeline.specs.Orders.{Ordered, Sound, NotLater, NotEarlier, Misplaced, not_later, not_earlier, misplaced, ordered_after, is_sound, time_before, time_after}

pub decides_leb : (m n : ℕ) → Decides (leb m n) (m ≤ n)
decides_leb m n = (leb-true m n, le-leb m n)

decides_not_later : (before : Option ℕ) (t : ℕ) → Decides (not_later before t) (NotLater before t)
decides_not_later None t = (λ e. (let z : ◌≡◌ {A = Bool} false true = e in grind arith), λ n. absurd n)
decides_not_later (Some u) t = decides_leb t u

decides_not_earlier : (after : Option ℕ) (t : ℕ) → Decides (not_earlier after t) (NotEarlier after t)
decides_not_earlier None t = (λ e. (let z : ◌≡◌ {A = Bool} false true = e in grind arith), λ n. absurd n)
decides_not_earlier (Some u) t = decides_leb u t

pub decides_misplaced : (before after : Option ℕ) (t : ℕ) → Decides (misplaced before after t) (Misplaced before after t)
decides_misplaced before after t = Decides-or (not_later before t) (not_earlier after t) (decides_not_later before t) (decides_not_earlier after t)

none_from : {A : Type 0} (o : Option A) → is_some o ≡ false → o ≡ None
none_from None e = refl
none_from (Some x) e = grind arith

false_from_decides : {P : Type 0} (b : Bool) → Decides b P → (P → ⊥) → b ≡ false
false_from_decides true d n = absurd (n (d.0 refl))
false_from_decides false d n = refl

nth_take : {A : Type 0} (n i : ℕ) (xs : List A) → i < n → slice_get (take n xs) i ≡ slice_get xs i
nth_take zero i xs h = absurd (omega arith)
nth_take (suc n) i [] h = refl
nth_take (suc n) zero (x ∷ xs) h = refl
nth_take (suc n) (suc i) (x ∷ xs) h = nth_take n i xs (omega arith)

-- ---- an entry before others
module _ {E : Type 0} (kind : Kind E) where
  -- the first entry of xs is later than the time before
  abbrev Follows : Option ℕ → List E → Type 0
  Follows before xs = (d : E) → 0 < length xs → NotLater before (kind.time (get_or xs 0 d)) → ⊥

  within_cons : (x : E) (xs : List E) → kind.outside x ≡ None → Ordered kind xs → (i : ℕ) (d : E) → i < length (x ∷ xs) → kind.outside (get_or (x ∷ xs) i d) ≡ None
  within_cons x xs e o zero d h = e
  within_cons x xs e o (suc i) d h = o.within i d (omega arith)

  rising_cons : (x : E) (xs : List E) → Ordered kind xs → Follows (Some (kind.time x)) xs → (i : ℕ) (d : E) → i + 1 < length (x ∷ xs) → kind.time (get_or (x ∷ xs) i d) < kind.time (get_or (x ∷ xs) (i + 1) d)
  rising_cons x xs o f zero d h = ⊎_elim (λ l. l) (λ g. absurd (f d (omega arith) g)) (cases_lt (kind.time x) (kind.time (get_or xs 0 d)))
  rising_cons x xs o f (suc i) d h = rw add-one (rw add-one at (o.rising i d (omega arith)))

  ordered_cons : (x : E) (xs : List E) → kind.outside x ≡ None → Ordered kind xs → Follows (Some (kind.time x)) xs → Ordered kind (x ∷ xs)
  ordered_cons x xs e o f = record { within = within_cons x xs e o; rising = rising_cons x xs o f }

  ordered_tail : (x : E) (xs : List E) → Ordered kind (x ∷ xs) → Ordered kind xs
  ordered_tail x xs o = record {
    within = λ i d h. o.within (suc i) d (omega arith);
    rising = λ i d h. rw add-one (rw add-one at (o.rising (suc i) d (omega arith)));
  }

  -- ---- what the test in one pass tells
  ordered_from : (before : Option ℕ) (xs : List E) → ordered_after kind before xs ≡ true → Ordered kind xs × Follows before xs
  ordered_from before [] e = (record { within = λ i d h. absurd (omega arith); rising = λ i d h. absurd (omega arith) }, λ d h. absurd (omega arith))
  ordered_from before (x ∷ xs) e =
      let p = and_parts (not (is_some (kind.outside x))) _ e in
      let q = and_parts (not (misplaced before None (kind.time x))) _ p.1 in
      let rest = ordered_from (Some (kind.time x)) xs q.1 in
      let fits : kind.outside x ≡ None = none_from (kind.outside x) (not-true _ p.0) in
      (ordered_cons x xs fits rest.0 rest.1, λ d h n. not_from_Decides _ (decides_misplaced before None (kind.time x)) (not-true _ q.0) (inl n))

  ordered_gives : (before : Option ℕ) (xs : List E) → Ordered kind xs → Follows before xs → ordered_after kind before xs ≡ true
  ordered_gives before [] o f = refl
  ordered_gives before (x ∷ xs) o f =
      let a : not (is_some (kind.outside x)) ≡ true = not_from_false _ (ap is_some (o.within 0 x (omega arith))) in
      let b : not (misplaced before None (kind.time x)) ≡ true = not_from_false _ (false_from_decides _ (decides_misplaced before None (kind.time x)) (⊎_elim (f x (omega arith)) (λ n. absurd n))) in
      let rest : ordered_after kind (Some (kind.time x)) xs ≡ true = ordered_gives (Some (kind.time x)) xs (ordered_tail x xs o) (λ d h n. absurd (omega (arith, o.rising 0 d (omega arith)))) in
      rw (a, b) rest

  pub decides_ordered : (xs : List E) → Decides (ordered_after kind None xs) (Ordered kind xs)
  decides_ordered xs = (λ e. (ordered_from None xs e).0, λ o. ordered_gives None xs o (λ d h n. absurd n))

  pub decides_sound : (count : ℕ) (table : List E) → Decides (is_sound kind count table) (Sound kind count table)
  unfolding is_sound
  decides_sound count table =
      let d = Decides-and (leb count (length table)) _ (decides_leb count (length table)) (decides_ordered (take count table)) in
      (λ e. record { room = (d.0 e).0; ordered = (d.0 e).1 }, λ s. d.1 (s.room, s.ordered))

  -- whatever tells whether a table is sound comes to the same as the test
  pub sound_told : (count : ℕ) (table : List E) (b : Bool) → Decides b (Sound kind count table) → b ≡ is_sound kind count table
  sound_told count table b d = same_from_decides b (is_sound kind count table) d (decides_sound count table)

  -- ---- neighbours
  nth_time : (xs : List E) (i : ℕ) (d : E) → i < length xs → slice_get (map kind.time xs) i ≡ Some (kind.time (get_or xs i d))
  nth_time xs i d lt = slice_get-get_or (map kind.time xs) i 0 (simp length-map lt) ∙ ap Some (get_or-map kind.time xs i d 0 lt)

  pub time_at : (xs : List E) (i : ℕ) (x : E) → i < length xs → x ≡ get_or xs i x → slice_get (map kind.time xs) i ≡ Some (kind.time x)
  time_at xs i x lt read = nth_time xs i x lt ∙ ap (λ y. Some (kind.time y)) (sym read)

  pub no_time_at : (xs : List E) (i : ℕ) → length xs ≤ i → slice_get (map kind.time xs) i ≡ None
  no_time_at xs i le = slice_get_past (map kind.time xs) i (simp length-map le)

  pub before_at : (xs : List E) (i : ℕ) → 0 < i → time_before kind xs i ≡ slice_get (map kind.time xs) (i - 1)
  before_at xs zero h = absurd (omega arith)
  before_at xs (suc i) h = let e : i ≡ suc i - 1 = omega arith in ap (slice_get (map kind.time xs)) e

  pub no_time_before : (xs : List E) (i : ℕ) → (i ≤ 0) ⊎ (length xs < i) → time_before kind xs i ≡ None
  no_time_before xs zero h = refl
  no_time_before xs (suc i) h = no_time_at xs i (omega arith)

  pub before_take : (n : ℕ) (xs : List E) → time_before kind (take n xs) n ≡ time_before kind xs n
  before_take zero xs = refl
  before_take (suc n) xs = ap (λ ts. slice_get ts n) (sym (take-map kind.time (suc n) xs)) ∙ nth_take (suc n) n (map kind.time xs) (omega arith)

  -- ---- a time that is not misplaced lies between its neighbours
  pub later_from : (xs : List E) (i : ℕ) (after : Option ℕ) (t : ℕ) → misplaced (time_before kind xs i) after t ≡ false → 0 < i → i ≤ length xs → (d : E) → kind.time (get_or xs (i - 1) d) < t
  later_from xs i after t m h le d =
      let at : time_before kind xs i ≡ Some (kind.time (get_or xs (i - 1) d)) = before_at xs i h ∙ nth_time xs (i - 1) d (omega arith) in
      let no = not_from_Decides _ (decides_misplaced (time_before kind xs i) after t) m in
      let no' = rw at at no in
      ⊎_elim (λ l. l) (λ g. absurd (no' (inl g))) (cases_lt (kind.time (get_or xs (i - 1) d)) t)

  pub earlier_from : (xs : List E) (i : ℕ) (before : Option ℕ) (t : ℕ) → misplaced before (time_after kind xs i) t ≡ false → i + 1 < length xs → (d : E) → t < kind.time (get_or xs (i + 1) d)
  earlier_from xs i before t m lt d =
      let at : time_after kind xs i ≡ Some (kind.time (get_or xs (i + 1) d)) = nth_time xs (i + 1) d lt in
      let no = not_from_Decides _ (decides_misplaced before (time_after kind xs i) t) m in
      let no' = rw at at no in
      ⊎_elim (λ l. l) (λ g. absurd (no' (inr g))) (cases_lt t (kind.time (get_or xs (i + 1) d)))

  -- ---- order is kept by an entry added, replaced or taken out
  pub ordered_push : (xs : List E) (e : E) → Ordered kind xs → kind.outside e ≡ None → misplaced (time_before kind xs (length xs)) None (kind.time e) ≡ false → Ordered kind (xs ++ e ∷ [])
  ordered_push xs e o fits m =
      let n = length_push xs e in
      record {
        within = λ i d h. ⊎_elim
            (λ lt. rw (get_or_append_left xs (e ∷ []) d i lt) (o.within i d lt))
            (λ ge. let end : length xs ≡ i = omega arith in rw (get_or_push xs e d i end) fits)
            (cases_lt i (length xs));
        rising = λ i d h. ⊎_elim
            (λ lt. let l : i < length xs = omega arith in rw (get_or_append_left xs (e ∷ []) d i l, get_or_append_left xs (e ∷ []) d (i + 1) lt) (o.rising i d lt))
            (λ ge.
            let l : i < length xs = omega arith in
            let end : length xs ≡ i + 1 = omega arith in
            let last : length xs - 1 ≡ i = omega arith in
            rw (get_or_append_left xs (e ∷ []) d i l, get_or_push xs e d (i + 1) end) (rw last at (later_from xs (length xs) None (kind.time e) m (omega arith) (omega arith) d)))
            (cases_lt (i + 1) (length xs));
      }

  pub ordered_set : (xs : List E) (p : ℕ) (e : E) → Ordered kind xs → p < length xs → kind.outside e ≡ None → misplaced (time_before kind xs p) (time_after kind xs p) (kind.time e) ≡ false → Ordered kind (set xs p e)
  ordered_set xs p e o lt fits m =
      let n = length-set xs p e in
      record {
        within = λ i d h. ⊎_elim
            (λ (same : i ≡ p). rw (same, get_or-set_same xs p e d lt) fits)
            (λ other. rw (get_or-set_other xs p i e d other) (o.within i d (omega arith)))
            (cases_eq i p);
        rising = λ i d h. ⊎_elim
            (λ (same : i ≡ p).
            let next : p + 1 ≡ p → ⊥ = λ q. omega arith in
            rw (same, get_or-set_same xs p e d lt, get_or-set_other xs p (p + 1) e d next) (earlier_from xs p (time_before kind xs p) (kind.time e) m (omega arith) d))
            (λ other. ⊎_elim
            (λ (here : i + 1 ≡ p).
            let last : p - 1 ≡ i = omega arith in
            let some : 0 < p = omega arith in
            let in' : p ≤ length xs = omega arith in
            rw (get_or-set_other xs p i e d other, here, get_or-set_same xs p e d lt) (rw last at (later_from xs p (time_after kind xs p) (kind.time e) m some in' d)))
            (λ apart. rw (get_or-set_other xs p i e d other, get_or-set_other xs p (i + 1) e d apart) (o.rising i d (omega arith)))
            (cases_eq (i + 1) p))
            (cases_eq i p);
      }

  pub ordered_removed : (xs : List E) (p : ℕ) → Ordered kind xs → p < length xs → Ordered kind (remove xs p)
  ordered_removed xs p o lt =
      let n = length-remove xs p lt in
      record {
        within = λ i d h. ⊎_elim
            (λ below. rw (get_or-remove_below xs p d i below lt) (o.within i d (omega arith)))
            (λ above. rw (get_or-remove_above xs p d i above lt) (o.within (i + 1) d (omega arith)))
            (cases_lt i p);
        rising = λ i d h. ⊎_elim
            (λ below. ⊎_elim
            (λ next. rw (get_or-remove_below xs p d i below lt, get_or-remove_below xs p d (i + 1) next lt) (o.rising i d (omega arith)))
            (λ next. rw (get_or-remove_below xs p d i below lt, get_or-remove_above xs p d (i + 1) next lt) (omega (arith, o.rising i d (omega arith), o.rising (i + 1) d (omega arith))))
            (cases_lt (i + 1) p))
            (λ (above : p ≤ i).
            let next : p ≤ i + 1 = omega arith in
            let more : (i + 1) + 1 < length xs = omega arith in
            rw (get_or-remove_above xs p d i above lt, get_or-remove_above xs p d (i + 1) next lt) (o.rising (i + 1) d more))
            (cases_lt i p);
      }
