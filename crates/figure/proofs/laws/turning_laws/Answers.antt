use Rattle.figure.proofs.Mirrored.{turning_laws_lem}
use Rattle.figure.proofs.laws.turning_laws.Goals as goal

pub returns : goal.returns
returns c = record { low_and_high_alike = turning_laws_lem }
