use Rattle.std.proofs.Common.{rules}
use Rattle.exact.specs.First.{FirstOrNone}
use Rattle.exact.proofs.First.{answer_unique}
use Rattle.disturbance.specs.Trigger.{Triggered}
use Rattle.disturbance.proofs.Answered.{trigger_from}
use Rattle.disturbance.proofs.trigger.trigger_time.Goals as goal

pub returns : goal.returns
returns c =
    let P = Triggered c.args.trace.samples.now c.args.disturbance c.args.recovery c.args.trigger in
    let first : FirstOrNone P c.filter.result =
    trigger_from c.args.trace.samples.now c.args.trace.sound c.args.disturbance c.args.recovery c.args.trigger c.first_reaching.result c.filter.result (λ t b keeps. search rules) c.first_reaching.ensures c.filter.ensures in
    record { first_time_of_trigger_or_none = first; no_other_answer = λ o other. answer_unique P o c.filter.result other first }
