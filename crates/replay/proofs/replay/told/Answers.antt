-- A line that is not silent is told its reply.
use Rattle.std.proofs.Common.{◌≡◌, true, false, inr}
use Rattle.std.proofs.lemmas.Result.{IfOk-weaker}
use Rattle.replay.specs.Replays.{IsSilent}
use Rattle.replay.proofs.replay.told.Goals as goal

pub returns : goal.returns
returns c =
    let loud : IsSilent c.args.line.now → ⊥ = λ silent. (let e : false ≡ true = c.if-is_silent.ensures.1 silent in absurd (cc)) in
    IfOk-weaker c.format.result _ _ (λ text e. inr (loud, (c.in_ok-reply.reply, c.in_ok-reply.ensures, e))) c.format.ensures.ok
