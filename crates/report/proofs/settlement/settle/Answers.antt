-- What the answers tell is the settlement.
use Rattle.std.proofs.Common.{refl}
use Rattle.std.proofs.lemmas.Slice.Zip.{AllZip-long}
use Rattle.report.specs.Settlements.{services, bare}
use Rattle.report.proofs.Settlements.{AnswersFor, settled_once, in_turn_told, load_refused, close_refused, all_done, each_delivery, settled}
use Rattle.report.proofs.settlement.settle.Goals as goal

pub returns-in-Refused : goal.returns-in-Refused
returns-in-Refused g c =
    let asks = bare c.args.settings.now (g.P.ResponseRule.triggers c.args.rule.now) (g.P.ResponseRule.weighs c.args.rule.now) in
    let h = in_turn_told _ _ asks _ _ _ _ _ _ refl c.settling-calls.ensures refl c.run.ensures.answers_as_the_accepted_record in
    let outcome = load_refused _ _ _ _ h.0 _ _ c.in-Refused.is in
    record { the_six_deliveries_or_the_refusal = outcome; no_other_settlement = λ o told. settled_once _ _ _ o _ told outcome; the_accepted_samples_over_the_table = h.1 }

pub returns-in-Refused-answers : goal.returns-in-Refused-answers
returns-in-Refused-answers g c =
    let asks = bare c.args.settings.now (g.P.ResponseRule.triggers c.args.rule.now) (g.P.ResponseRule.weighs c.args.rule.now) in
    let h = in_turn_told _ _ asks _ _ _ _ _ _ refl c.settling-calls.ensures refl c.run.ensures.answers_as_the_accepted_record in
    let outcome = close_refused _ _ _ _ h.0 _ _ _ c.in_default.not-Refused c.in-Refused-answers.is in
    record { the_six_deliveries_or_the_refusal = outcome; no_other_settlement = λ o told. settled_once _ _ _ o _ told outcome; the_accepted_samples_over_the_table = h.1 }

pub deliveries-requires : goal.deliveries-requires
deliveries-requires g c =
    let asks = bare c.args.settings.now (g.P.ResponseRule.triggers c.args.rule.now) (g.P.ResponseRule.weighs c.args.rule.now) in
    let h = in_turn_told _ _ asks _ _ _ _ _ _ refl c.settling-calls.ensures refl c.run.ensures.answers_as_the_accepted_record in
    let k = all_done _ _ _ _ h.0 _ _ c.in_default.not-Refused c.in_default-answers.not-Refused in
    record { answers = each_delivery _ _ services _ k.told; all = AllZip-long (AnswersFor _ _) services _ k.told }

pub returns : goal.returns
returns g c =
    let asks = bare c.args.settings.now (g.P.ResponseRule.triggers c.args.rule.now) (g.P.ResponseRule.weighs c.args.rule.now) in
    let h = in_turn_told _ _ asks _ _ _ _ _ _ refl c.settling-calls.ensures refl c.run.ensures.answers_as_the_accepted_record in
    let k = all_done _ _ _ _ h.0 _ _ c.in_default.not-Refused c.in_default-answers.not-Refused in
    let outcome = settled _ _ _ _ k c.deliveries.result c.deliveries.ensures.services c.deliveries.ensures.answers in
    record { the_six_deliveries_or_the_refusal = outcome; no_other_settlement = λ o told. settled_once _ _ _ o _ told outcome; the_accepted_samples_over_the_table = h.1 }
