use Rattle.std.proofs.Common.{rules, tests}
use Rattle.std.proofs.lemmas.Iterator.{cases_from_any}
use Rattle.delivery.proofs.Neighbours.{Gap, windows_are, gapped_decided}
use Rattle.delivery.proofs.gaps.is_gapped.Goals as goal

pub returns : goal.returns
returns c =
    gapped_decided c.args.spans.widest_gap c.args.spans.first c.args.spans.second c.args.samples.now _
    (cases_from_any _ _ _ (λ p. Gap c.args.spans.widest_gap c.args.spans.first c.args.spans.second p) (λ p. Gap c.args.spans.widest_gap c.args.spans.first c.args.spans.second p → ⊥) c.any.ensures.ran (windows_are c.args.samples.now (search rules) (search rules)) (λ x q k. search (rules, tests)) (λ x q k. search (rules, tests)))
