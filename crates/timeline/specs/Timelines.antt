-- What put, amend and strike answer, and what they leave in the table.
use Rattle.std.specs.Prelude.{◌≡◌, ℕ, ◌≤◌, List, [], ◌∷◌, ◌++◌, length, take, drop, Some, None, Ok, Err, Option, Result, MatchResult, slice_index_or, slice_set}
use Rattle.std.specs.List.{remove}
use Rattle.recording.specs.declared.refusal.Reason.{Reason}
use Rattle.recording.specs.declared.refusal.Refusal.{Refusal}
use Rattle.recording.specs.Refusals.{refusal}
use Rattle.timeline.specs.Checks.{Check, TheFirst, first_of}
use Rattle.timeline.specs.Entries.{Kind}
use Rattle.timeline.specs.Orders.{Sound, time_before}
use Rattle.timeline.specs.Faults.{append_faults, put_checks, amend_checks, strike_checks}

-- a call's answer: a value, or the refusal that the fault makes
abbrev pub answered : {A W F : Type 0} → (W → F) → A → Option W → Result A F
answered refused value None = Ok value
answered refused value (Some why) = Err (refused why)

-- the table with xs laid over its front
abbrev pub over : {E : Type 0} → List E → List E → List E
over xs table = xs ++ drop (length xs) table

-- the table after a call: xs laid over its front, or nothing written
abbrev pub written : {E W : Type 0} → Option W → List E → List E → List E
written None xs table = over xs table
written (Some why) xs table = table

-- the entries xs are counted now, in order, and every place from the count on keeps its content
pub record Stands {E : Type 0} (kind : Kind E) (xs old : List E) (count : ℕ) (new : List E) : Type 0 where
  pub counted : take count new ≡ xs
  pub sound : Sound kind count new
  pub beyond : (i : ℕ) (d : E) → count ≤ i → slice_index_or new i d ≡ slice_index_or old i d

-- a call that makes xs the counted entries of a table, unless one of the faults applies: its answer and the new table
pub record Outcome {E F : Type 0} (faults : List (Check Reason)) (refused : Reason → F) (xs old : List E) (r : Result ℕ F) (new : List E) : Type 0 where
  pub first : TheFirst faults (first_of faults)
  pub answer : r ≡ answered refused (length xs) (first_of faults)
  pub table : new ≡ written (first_of faults) xs old

-- such a call on a timeline, refused at a place: order is kept, and no place from the count on is touched
pub record Edits {E : Type 0} (kind : Kind E) (faults : List (Check Reason)) (place : ℕ) (xs old : List E) (r : Result ℕ Refusal) (new : List E) : Type 0 where
  pub outcome : Outcome faults (λ why. refusal why place 0) xs old r new
  pub stands : MatchResult r (λ count. Stands kind xs old count new) (λ _. new ≡ old)

-- append adds an entry after the counted ones, and looks at the last of them only
abbrev pub Appends : {E : Type 0} → Kind E → ℕ → List E → E → Result ℕ Reason → List E → Type 0
Appends kind count table e = Outcome (append_faults kind (length table) count (time_before kind table count) e) (λ why. why) (take count table ++ e ∷ []) table

-- put adds an entry at the end
abbrev pub Puts : {E : Type 0} → Kind E → ℕ → List E → E → Result ℕ Refusal → List E → Type 0
Puts kind count table e = Edits kind (put_checks kind count table e) count (take count table ++ e ∷ []) table

-- amend replaces the entry at a place
abbrev pub Amends : {E : Type 0} → Kind E → ℕ → List E → ℕ → E → Result ℕ Refusal → List E → Type 0
Amends kind count table place e = Edits kind (amend_checks kind count table place e) place (slice_set (take count table) place e) table

-- strike takes the entry at a place out
abbrev pub Strikes : {E : Type 0} → Kind E → ℕ → List E → ℕ → Result ℕ Refusal → List E → Type 0
Strikes kind count table place = Edits kind (strike_checks kind count table place) place (remove (take count table) place) table
