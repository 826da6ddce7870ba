-- The lines of a settlement stand one after the other.
use Rattle.std.proofs.Common.{rules, length, ◌≡◌, ◌++◌, codes, string_bytes, ap, ◌∙◌}
use Rattle.std.proofs.lemmas.Result.{IfOk-weaker}
use Rattle.report.proofs.Texts.{by_places, six_lines}
use Rattle.report.proofs.text.settlement_text.Goals as goal

pub returns : goal.returns
returns c =
    let six : length c.args.settlement ≡ 6 = search rules in
    IfOk-weaker c.format.result (λ s. string_bytes s ≡ codes "service watts verdict\n" ++ by_places c.args.settlement _ _ _ _ _ _) _ (λ s e. e ∙ ap (λ xs. codes "service watts verdict\n" ++ xs) (six_lines c.args.settlement six _ _ _ _ _ _)) c.format.ensures.ok
