use Rattle.std.proofs.Common.{ap}
use Rattle.exact.specs.Fractions.{whole}
use Rattle.delivery.proofs.Held.{hundred}
use Rattle.delivery.proofs.base.power.Goals as goal

pub returns : goal.returns
returns c = let h = hundred c.in_hundredths.ensures c.requires in record { is = ap whole h.is; within = h.within }
