-- In either state the call takes its turn.
use Rattle.calls.proofs.turn.take.Goals as goal

pub returns-in-Open-clause-answers_as_the_accepted_record : goal.returns-in-Open-clause-answers_as_the_accepted_record
returns-in-Open-clause-answers_as_the_accepted_record g c = rw c.in-Open.is c.open_turn.ensures.answers_as_the_accepted_record

pub returns-in-Closed-clause-answers_as_the_accepted_record : goal.returns-in-Closed-clause-answers_as_the_accepted_record
returns-in-Closed-clause-answers_as_the_accepted_record g c = rw c.in-Closed.is c.closed_turn.ensures.answers_as_the_accepted_record
