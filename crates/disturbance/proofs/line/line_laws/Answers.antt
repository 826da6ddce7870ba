use Rattle.exact.proofs.Lines.{through_ends}
use Rattle.disturbance.proofs.line.line_laws.Goals as goal

pub returns : goal.returns
returns c = record { line_goes_through_both_samples = through_ends }
