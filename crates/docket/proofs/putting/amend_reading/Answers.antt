-- The timeline's amend by the sample is the amend by the reading.
use Rattle.std.proofs.Common.{sym, rules}
use Rattle.std.proofs.lemmas.Result.{MatchResult-weaker}
use Rattle.docket.proofs.Reasons.{amend_reading_lem, amend_outside}
use Rattle.docket.proofs.putting.amend_reading.Goals as goal

pub returns-in-Ok : goal.returns-in-Ok
returns-in-Ok c = amend_reading_lem c.args.count c.args.table.now c.args.place c.args.reading c.in-Ok.sample _ _ (sym c.in-Ok.ensures.as_computed_from_the_fields) c.amend.ensures.replaced_at_the_place_or_refused

pub returns-in-Err : goal.returns-in-Err
returns-in-Err c =
    amend_outside c.args.count c.args.table.now c.args.place c.args.reading c.in-Err.field c.check_strike.result c.and-refused.result c.map_err.result (sym c.in-Err.ensures.as_computed_from_the_fields) c.check_strike.ensures.allowed_or_the_first_fault_of_strike c.and-refused.ensures
    (MatchResult-weaker c.and-refused.result c.map_err.ensures.cases (λ x h. h) (λ why h. search rules))
