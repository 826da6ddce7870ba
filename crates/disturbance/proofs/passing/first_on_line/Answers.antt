use Rattle.std.proofs.Common.{rules}
use Rattle.disturbance.specs.Passing.{level, is_above}
use Rattle.disturbance.proofs.Scans.{on_line}
use Rattle.disturbance.proofs.passing.first_on_line.Goals as goal

pub returns : goal.returns
returns c =
    let s = c.args.sought in
    on_line c.args.trace.samples.now c.args.trace.sound s.side (level s.mark) (is_above s.mark) s.from (λ p o finds. search rules) c.first_found.result c.first_found.ensures
