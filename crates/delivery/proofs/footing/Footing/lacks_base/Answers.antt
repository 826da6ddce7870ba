use Rattle.std.proofs.Common.{rules, tests}
use Rattle.std.proofs.lemmas.Iterator.{YieldsList-from_slice}
use Rattle.std.proofs.lemmas.Iterator.Search.{any_from_yields_List}
use Rattle.figure.specs.declared.point.Point.{Point}
use Rattle.figure.specs.Points.{turned}
use Rattle.figure.specs.Steps.{is_base}
use Rattle.delivery.proofs.Keeping.{keeps_none}
use Rattle.delivery.proofs.footing.Footing.lacks_base.Goals as goal

pub returns : goal.returns
returns c =
    let d = c.args.self.disturbance in
    let has = λ (p : Point). is_base d.time c.args.self.window p.time in
    let xs = c.args.self.trace.samples.now in
    keeps_none (turned d.direction) has xs c.any.result
    (any_from_yields_List (λ s. has (turned d.direction s)) _ _ c.any.result c.any.ensures.ran (YieldsList-from_slice xs cc) (λ x b q k. search (rules, tests)))
