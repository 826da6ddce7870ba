-- Each call that a closed docket offers is a step of the accepted record, as the docket says.
use Rattle.std.proofs.Common.{refl}
use Rattle.docket.specs.Calls.{reported, reopened}
use Rattle.calls.proofs.turn.closed_turn.Goals as goal

pub returns-in-Reopen-clause-answers_as_the_accepted_record : goal.returns-in-Reopen-clause-answers_as_the_accepted_record
returns-in-Reopen-clause-answers_as_the_accepted_record g c = rw c.in-Reopen.is (reopened, refl, c.reopen.ensures.history_grows_by_this_reopening c.args.table.now)

pub returns-in-Deliver-clause-answers_as_the_accepted_record : goal.returns-in-Deliver-clause-answers_as_the_accepted_record
returns-in-Deliver-clause-answers_as_the_accepted_record g c = rw c.in-Deliver.is (reported c.deliver.result, c.into.ensures, c.deliver.ensures.history_grows_by_this_delivery)
