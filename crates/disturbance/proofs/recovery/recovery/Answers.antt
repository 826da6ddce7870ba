use Rattle.std.proofs.Common.{◌+◌, ◌-◌, true, subst}
use Rattle.exact.proofs.First.{answer_unique}
use Rattle.exact.specs.First.{FirstOrNone}
use Rattle.disturbance.specs.declared.direction.Direction.{Direction}
use Rattle.disturbance.specs.Direction.{nominal}
use Rattle.disturbance.specs.Passing.{PassedFrom}
use Rattle.disturbance.specs.Recovery.{recovery_dip, Recovered}
use Rattle.disturbance.proofs.Answered.{recovery_from}
use Rattle.disturbance.proofs.recovery.recovery.Goals as goal

pub returns : goal.returns
returns c =
    let xs = c.args.trace.samples.now in
    let d = c.args.disturbance in
    let r = c.first_above.result in
    let passed = subst (λ (side : Direction). FirstOrNone (PassedFrom xs side (nominal - recovery_dip) true (d.time + 1)) r) c.other.ensures c.first_above.ensures in
    let h : FirstOrNone (Recovered xs d) r = recovery_from xs c.args.trace.sound d r passed in
    record { first_time_of_recovery_or_none = h; no_other_answer = λ o k. answer_unique (Recovered xs d) o r k h }
