-- What sends a call on a timeline back, in the checking order.
use Rattle.std.specs.Prelude.{◌≡◌, ℕ, ◌≤◌, Bool, false, not, ◌||◌, ◌⊎◌, List, [], ◌∷◌, length, take, Some, None, Option, ◌==◌, nat_le}
use Rattle.recording.specs.declared.refusal.Field.{Field}
use Rattle.recording.specs.declared.refusal.Field.TheVariants.{Time, Frequency, Power}
use Rattle.recording.specs.declared.refusal.Reason.{Reason}
use Rattle.recording.specs.declared.refusal.Reason.TheVariants.{OtherTable, BeyondCount, OutsideLimits, Full, OutOfOrder}
use Rattle.recording.specs.Refusals.{field_number}
use Rattle.timeline.specs.Checks.{Check}
use Rattle.timeline.specs.Entries.{Kind}
use Rattle.timeline.specs.Orders.{Sound, is_sound, Misplaced, misplaced, time_before, time_after}

-- the table has fewer places than the count, or its counted entries break the limits or the order
abbrev pub other_table : {E : Type 0} → Kind E → ℕ → List E → Check Reason
other_table kind count table = record { Applies = Sound kind count table → ⊥; test = not (is_sound kind count table); answer = OtherTable }

-- the place is at or beyond the count
abbrev pub beyond_count : ℕ → ℕ → Check Reason
beyond_count count place = record { Applies = count ≤ place; test = nat_le count place; answer = BeyondCount }

-- the test that the first field outside is this one
abbrev pub is_field : Field → Option Field → Bool
is_field f None = false
is_field f (Some g) = field_number g == field_number f

-- the field is the entry's first that is outside its limits
abbrev pub outside : {E : Type 0} → Kind E → E → Field → Check Reason
outside kind e f = record { Applies = kind.outside e ≡ Some f; test = is_field f (kind.outside e); answer = OutsideLimits f }

-- the count has reached the table's places or the maximum
abbrev pub full : {E : Type 0} → Kind E → ℕ → ℕ → Check Reason
full kind places count = record { Applies = (places ≤ count) ⊎ (kind.most ≤ count); test = nat_le places count || nat_le kind.most count; answer = Full }

-- the time is not later than the entry before, or not earlier than the entry after
abbrev pub out_of_order : Option ℕ → Option ℕ → ℕ → Check Reason
out_of_order before after t = record { Applies = Misplaced before after t; test = misplaced before after t; answer = OutOfOrder }

-- a field of the entry is outside its limits; whatever is checked next
abbrev pub outside_limits : {E : Type 0} → Kind E → E → List (Check Reason) → List (Check Reason)
outside_limits kind e next = outside kind e Time ∷ outside kind e Frequency ∷ outside kind e Power ∷ next

-- an entry added after so many others, the last of which has this time, in a table of so many places
abbrev pub append_faults : {E : Type 0} → Kind E → ℕ → ℕ → Option ℕ → E → List (Check Reason)
append_faults kind places count before e = outside_limits kind e (full kind places count ∷ out_of_order before None (kind.time e) ∷ [])

-- an entry put at the end of xs
abbrev pub put_faults : {E : Type 0} → Kind E → ℕ → List E → E → List (Check Reason)
put_faults kind places xs e = append_faults kind places (length xs) (time_before kind xs (length xs)) e

-- an entry in the place of the one at i of xs
abbrev pub amend_faults : {E : Type 0} → Kind E → List E → ℕ → E → List (Check Reason)
amend_faults kind xs i e = beyond_count (length xs) i ∷ outside_limits kind e (out_of_order (time_before kind xs i) (time_after kind xs i) (kind.time e) ∷ [])

-- the entry at i of xs taken out
abbrev pub strike_faults : {E : Type 0} → List E → ℕ → List (Check Reason)
strike_faults xs i = beyond_count (length xs) i ∷ []

-- put on a table, which first of all has to be the count's
abbrev pub put_checks : {E : Type 0} → Kind E → ℕ → List E → E → List (Check Reason)
put_checks kind count table e = other_table kind count table ∷ put_faults kind (length table) (take count table) e

-- amend on a table
abbrev pub amend_checks : {E : Type 0} → Kind E → ℕ → List E → ℕ → E → List (Check Reason)
amend_checks kind count table i e = other_table kind count table ∷ amend_faults kind (take count table) i e

-- strike on a table
abbrev pub strike_checks : {E : Type 0} → Kind E → ℕ → List E → ℕ → List (Check Reason)
strike_checks kind count table i = other_table kind count table ∷ strike_faults (take count table) i
