-- Six answers are told as six deliveries.
use Rattle.docket.specs.Calls.{reported}
use Rattle.calls.specs.Answers.{told}
use Rattle.report.proofs.Settlements.{six_places}
use Rattle.report.proofs.settlement.deliveries.Goals as goal

pub returns-clause-answers : goal.returns-clause-answers
returns-clause-answers c =
    let x = told (reported c.delivery_at.result.answer) in
    cc (six_places c.args.answers.now x x x x x x c.requires.all, c.delivery_at.ensures.answer x, c.delivery_at-2.ensures.answer x, c.delivery_at-3.ensures.answer x, c.delivery_at-4.ensures.answer x, c.delivery_at-5.ensures.answer x, c.delivery_at-6.ensures.answer x)
