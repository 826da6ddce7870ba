-- What a call answers and leaves on a docket in either state, with any table.
use Rattle.std.specs.Prelude.{◌≡◌, ℕ, List, Some, None, Result}
use Rattle.recording.specs.declared.refusal.Refusal.{Refusal}
use Rattle.recording.specs.declared.sample.Sample.{Sample}
use Rattle.timeline.specs.Samples.{samples}
use Rattle.timeline.specs.Timelines.{Strikes}
use Rattle.figure.specs.declared.report.Report.{Report}
use Rattle.docket.specs.declared.docket.ClosedDocket.{ClosedDocket}
use Rattle.docket.specs.declared.docket.Kept.{Kept}
use Rattle.docket.specs.declared.docket.State.{State}
use Rattle.docket.specs.declared.docket.State.TheVariants.{Open, Closed}
use Rattle.docket.specs.Deliveries.{DeliversFrom}
use Rattle.docket.specs.Calls.{Meaning, of_open, of_closed, put, load, amend, strike, close, deliver, reopen, counted, closed_on, reported, reopened}
use Rattle.docket.specs.Dockets.{PutsReading, LoadsMembers, AmendsReading, ClosesOn, close_says, after_close, count_after}
use Rattle.calls.specs.declared.turn.Turn.{Turn}
use Rattle.calls.specs.Answers.{told}

-- an open docket with so many samples
abbrev pub open_with : ℕ → State
open_with count = Open (record { count = count })

-- a call is answered with a count or a refusal: the docket is open with the count, or with the old one
abbrev pub counting : Result ℕ Refusal → ℕ → Turn
counting r old = record { state = open_with (count_after r old); answer = Some (told (counted r)) }

-- a close is answered with the disturbance and a closed docket, or with the refusal and the open one
abbrev pub closing : Result ClosedDocket Kept → Turn
closing r = record { state = after_close r; answer = Some (told (closed_on (close_says r))) }

-- a delivery is answered with a report or a refusal, and the docket stays
abbrev pub delivering : Result Report Refusal → ClosedDocket → Turn
delivering r docket = record { state = Closed docket; answer = Some (told (reported r)) }

-- a reopening is answered, and the docket is open with the count that it has
abbrev pub reopening : ClosedDocket → Turn
reopening docket = record { state = open_with docket.count; answer = Some (told reopened) }

-- a call that a state does not offer has no answer, and the docket stays
abbrev pub unanswered : State → Turn
unanswered state = record { state = state; answer = None }

-- the call on the docket and the table has this turn, and leaves this table
abbrev pub Does : State → List Sample → Meaning → Turn → List Sample → Type 0
Does (Open docket) table (of_open (put r)) turn left =
    (o : Result ℕ Refusal) × PutsReading docket.count table r o left × (turn ≡ counting o docket.count)
Does (Open docket) table (of_open (load ms)) turn left =
    (o : Result ℕ Refusal) × LoadsMembers docket.count table ms o left × (turn ≡ counting o docket.count)
Does (Open docket) table (of_open (amend i r)) turn left =
    (o : Result ℕ Refusal) × AmendsReading docket.count table i r o left × (turn ≡ counting o docket.count)
Does (Open docket) table (of_open (strike i)) turn left =
    (o : Result ℕ Refusal) × Strikes samples docket.count table i o left × (turn ≡ counting o docket.count)
Does (Open docket) table (of_open close) turn left =
    (o : Result ClosedDocket Kept) × ClosesOn docket table o × (turn ≡ closing o) × (left ≡ table)
Does (Closed docket) table (of_closed (deliver q)) turn left =
    (o : Result Report Refusal) × DeliversFrom docket.count docket.disturbance table q o
    × (turn ≡ delivering o docket) × (left ≡ table)
Does (Closed docket) table (of_closed reopen) turn left = (turn ≡ reopening docket) × (left ≡ table)
Does (Open docket) table (of_closed c) turn left = (turn ≡ unanswered (Open docket)) × (left ≡ table)
Does (Closed docket) table (of_open c) turn left = (turn ≡ unanswered (Closed docket)) × (left ≡ table)
