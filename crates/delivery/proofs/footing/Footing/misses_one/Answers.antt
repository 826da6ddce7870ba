use Rattle.std.proofs.Common.{rules, tests}
use Rattle.std.proofs.lemmas.Iterator.{cases_from_any, YieldsList-from_slice}
use Rattle.figure.specs.declared.point.Point.{Point}
use Rattle.figure.specs.Points.{turned}
use Rattle.delivery.proofs.Courses.{origin}
use Rattle.figure.specs.Steps.{is_base}
use Rattle.delivery.proofs.Keeping.{Misses, misses_decided}
use Rattle.delivery.proofs.Reaching.{nothing}
use Rattle.delivery.proofs.footing.Footing.misses_one.Goals as goal

pub returns : goal.returns
returns c =
    let d = c.args.self.disturbance in
    let has = λ (p : Point). is_base d.time c.args.self.window p.time in
    let xs = c.args.self.trace.samples.now in
    let gs = c.args.targets.all.now in
    misses_decided gs has (turned d.direction) nothing origin xs _
    (cases_from_any _ _ _ (λ s. Misses gs has (turned d.direction s)) (λ s. Misses gs has (turned d.direction s) → ⊥) c.any.ensures.ran (YieldsList-from_slice xs cc) (λ x q k. search (rules, tests)) (λ x q k. search (rules, tests)))
