-- A close is a step of the accepted record, as the docket says.
use Rattle.std.proofs.Common.{Ok, refl, subst}
use Rattle.docket.specs.declared.docket.State.TheVariants.{Open}
use Rattle.docket.specs.Calls.{of_open, close, closed_on}
use Rattle.docket.specs.Dockets.{Follows, close_says, after_close}
use Rattle.calls.proofs.turn.close_turn.Goals as goal

pub returns-in-Ok-clause-answers_as_the_accepted_record : goal.returns-in-Ok-clause-answers_as_the_accepted_record
returns-in-Ok-clause-answers_as_the_accepted_record c =
    rw c.disturbance.ensures.the_disturbance_it_was_closed_on
    (closed_on (Ok c.in-Ok.docket.disturbance), refl, subst (λ r. Follows (Open c.args.docket) c.args.table.now (of_open close) (closed_on (close_says r)) (after_close r) c.args.table.now) c.in-Ok.is c.close.ensures.history_grows_by_this_close)

pub returns-in-Err-clause-answers_as_the_accepted_record : goal.returns-in-Err-clause-answers_as_the_accepted_record
returns-in-Err-clause-answers_as_the_accepted_record c =
    (closed_on _, refl, subst (λ r. Follows (Open c.args.docket) c.args.table.now (of_open close) (closed_on (close_says r)) (after_close r) c.args.table.now) c.in-Err.is c.close.ensures.history_grows_by_this_close)
