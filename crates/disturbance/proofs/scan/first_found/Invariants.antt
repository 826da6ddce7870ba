use Rattle.disturbance.specs.Stretches.{NoneBefore}
use Rattle.disturbance.proofs.Stretches.{Left, next_place}
use Rattle.disturbance.proofs.scan.first_found.Given as goal

abbrev pub invariant-loop-pair : goal.invariant-loop-pair
invariant-loop-pair g l =
    Left l.fn.trace.samples.now l.pair-iterator × NoneBefore (goal.F-post g l.fn.find) l.fn.trace.samples.now (next_place l.fn.trace.samples.now l.pair-iterator)
