-- Each call that an open docket offers is a step of the accepted record, as the docket says.
use Rattle.docket.specs.Calls.{counted}
use Rattle.calls.proofs.turn.open_turn.Goals as goal

pub returns-in-Close-clause-answers_as_the_accepted_record : goal.returns-in-Close-clause-answers_as_the_accepted_record
returns-in-Close-clause-answers_as_the_accepted_record g c = rw c.in-Close.is c.close_turn.ensures.answers_as_the_accepted_record

pub returns-in-Put-clause-answers_as_the_accepted_record : goal.returns-in-Put-clause-answers_as_the_accepted_record
returns-in-Put-clause-answers_as_the_accepted_record g c = rw c.in-Put.is (counted c.put.result, c.into.ensures, c.put.ensures.history_grows_by_this_put)

pub returns-in-Load-clause-answers_as_the_accepted_record : goal.returns-in-Load-clause-answers_as_the_accepted_record
returns-in-Load-clause-answers_as_the_accepted_record g c = rw c.in-Load.is (counted c.load.result, c.into-in-Load.ensures, c.load.ensures.history_grows_by_this_load)

pub returns-in-Amend-clause-answers_as_the_accepted_record : goal.returns-in-Amend-clause-answers_as_the_accepted_record
returns-in-Amend-clause-answers_as_the_accepted_record g c = rw c.in-Amend.is (counted c.amend.result, c.into-in-Amend.ensures, c.amend.ensures.history_grows_by_this_amend)

pub returns-in-Strike-clause-answers_as_the_accepted_record : goal.returns-in-Strike-clause-answers_as_the_accepted_record
returns-in-Strike-clause-answers_as_the_accepted_record g c = rw c.in-Strike.is (counted c.strike.result, c.into-in-Strike.ensures, c.strike.ensures.history_grows_by_this_strike)
