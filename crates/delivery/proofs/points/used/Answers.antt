-- With no recovery every sample is used.
use Rattle.std.proofs.Common.{sym, ap, ◌∙◌}
use Rattle.figure.specs.Points.{course}
use Rattle.figure.specs.Steps.{used_points}
use Rattle.delivery.proofs.Using.{all_used}
use Rattle.delivery.proofs.points.used.Goals as goal

pub returns-in-None : goal.returns-in-None
returns-in-None c = λ d. sym (all_used _) ∙ sym (ap (λ o. used_points o (course d c.args.trace.samples.now)) c.in-None.is)
