-- A list of calls run on one docket and its table.
use Rattle.std.specs.Prelude.{◌≡◌, ℕ, cond, List, [], ◌∷◌, length, take, Ok, Err, Result, nat_lt}
use Rattle.recording.specs.declared.sample.Sample.{Sample}
use Rattle.timeline.specs.Timelines.{over}
use Rattle.docket.specs.Accepted.{Accepted, opened, samples_of}
use Rattle.docket.specs.Calls.{Meaning, Outcome}
use Rattle.docket.specs.Steps.{Step, Unoffered}
use Rattle.calls.specs.declared.answer.Answer.{Answer}
use Rattle.calls.specs.declared.run.NotOffered.{NotOffered}
use Rattle.calls.specs.Answers.{told}

-- from an accepted record and a table, the calls are steps with these answers, up to the first that is not offered; each lays
-- the accepted samples over the table's front
abbrev pub Runs : ℕ → Accepted → List Sample → List Meaning → List Answer → List Sample → Type 0
Runs places a table [] [] left = left ≡ table
Runs places a table [] (x ∷ answers) left = ⊥
Runs places a table (c ∷ calls) [] left = Unoffered a c × (left ≡ table)
Runs places a table (c ∷ calls) (x ∷ answers) left =
    (outcome : Outcome) × (next : Accepted) × Step places a c outcome next
    × (x ≡ told outcome) × Runs places next (over (samples_of next) table) calls answers left

-- how many calls were answered: all of them, or those before the one that is not offered
abbrev pub ended : (answered calls : ℕ) → Result ℕ NotOffered
ended answered calls = cond (nat_lt answered calls) (Err (record { place = answered })) (Ok answered)

-- the calls run on a new docket and a table, as many as there are places for answers: the result, the table, and the places for answers afterwards
pub record Ran (table : List Sample) (calls : List Meaning) (slots : List Answer) (r : Result ℕ NotOffered) (left : List Sample) (filled : List Answer) : Type 0 where
  pub answers : List Answer
  pub runs : Runs (length table) (opened []) table (take (length slots) calls) answers left
  pub result : r ≡ ended (length answers) (length (take (length slots) calls))
  pub told : filled ≡ over answers slots
