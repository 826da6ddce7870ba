-- Entries in order of their times, and the neighbours of a place.
use Rattle.std.specs.Prelude.{◌≡◌, ℕ, zero, suc, ◌+◌, ◌<◌, ◌≤◌, Bool, true, false, not, ◌&&◌, ◌||◌, ◌⊎◌, List, [], ◌∷◌, map, length, take, is_some, Some, None, Option, nat_le, slice_index_or}
use Rattle.std.specs.List.{slice_get}
use Rattle.timeline.specs.Entries.{Kind}

-- every entry is within its limits, and each is earlier than the next
pub record Ordered {E : Type 0} (kind : Kind E) (xs : List E) : Type 0 where
  pub within : (i : ℕ) (d : E) → i < length xs → kind.outside (slice_index_or xs i d) ≡ None
  pub rising : (i : ℕ) (d : E) → i + 1 < length xs → kind.time (slice_index_or xs i d) < kind.time (slice_index_or xs (i + 1) d)

-- the table has a place for each counted entry, and these are in order
pub record Sound {E : Type 0} (kind : Kind E) (count : ℕ) (table : List E) : Type 0 where
  pub room : count ≤ length table
  pub ordered : Ordered kind (take count table)

-- the time of the entry before place i, if there is one
abbrev pub time_before : {E : Type 0} → Kind E → List E → ℕ → Option ℕ
time_before kind xs zero = None
time_before kind xs (suc i) = slice_get (map kind.time xs) i

-- the time of the entry after place i, if there is one
abbrev pub time_after : {E : Type 0} → Kind E → List E → ℕ → Option ℕ
time_after kind xs i = slice_get (map kind.time xs) (i + 1)

-- time t is not later than the entry before
abbrev pub NotLater : Option ℕ → ℕ → Type 0
NotLater None t = ⊥
NotLater (Some before) t = t ≤ before

-- time t is not earlier than the entry after
abbrev pub NotEarlier : Option ℕ → ℕ → Type 0
NotEarlier None t = ⊥
NotEarlier (Some after) t = after ≤ t

-- time t does not lie between its neighbours
abbrev pub Misplaced : Option ℕ → Option ℕ → ℕ → Type 0
Misplaced before after t = NotLater before t ⊎ NotEarlier after t

-- the test of NotLater
abbrev pub not_later : Option ℕ → ℕ → Bool
not_later None t = false
not_later (Some before) t = nat_le t before

-- the test of NotEarlier
abbrev pub not_earlier : Option ℕ → ℕ → Bool
not_earlier None t = false
not_earlier (Some after) t = nat_le after t

-- the test of Misplaced
abbrev pub misplaced : Option ℕ → Option ℕ → ℕ → Bool
misplaced before after t = not_later before t || not_earlier after t

-- the test of Ordered, in one pass: the entries come after the time before
abbrev pub ordered_after : {E : Type 0} → Kind E → Option ℕ → List E → Bool
ordered_after kind before [] = true
ordered_after kind before (x ∷ xs) = not (is_some (kind.outside x)) && (not (misplaced before None (kind.time x)) && ordered_after kind (Some (kind.time x)) xs)

-- the test of Sound
unfoldable pub is_sound : {E : Type 0} → Kind E → ℕ → List E → Bool
is_sound kind count table = nat_le count (length table) && ordered_after kind None (take count table)
