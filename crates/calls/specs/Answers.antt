-- The answer that tells what a call brings.
use Rattle.std.specs.Prelude.{Ok, Err}
use Rattle.docket.specs.Calls.{Outcome, counted, closed_on, reported, reopened}
use Rattle.calls.specs.declared.answer.Answer.{Answer}
use Rattle.calls.specs.declared.answer.Answer.TheVariants.{Counted, Closed, Reported, Reopened, Refused}

-- what is brought, or its refusal
abbrev pub told : Outcome → Answer
told (counted (Ok count)) = Counted count
told (counted (Err refusal)) = Refused refusal
told (closed_on (Ok disturbance)) = Closed disturbance
told (closed_on (Err refusal)) = Refused refusal
told (reported (Ok report)) = Reported report
told (reported (Err refusal)) = Refused refusal
told reopened = Reopened
