-- The value from the area, half-up, fits.
use Rattle.std.proofs.Common.{ap, ◌∙◌, arith}
use Rattle.exact.specs.Fractions.{whole}
use Rattle.figure.specs.Points.{course}
use Rattle.delivery.specs.Areas.{compensated_z}
use Rattle.delivery.proofs.Valuing.{fit, valued, value_is}
use Rattle.delivery.proofs.windows.window_value.Goals as goal

pub overflow_mul-sum : goal.overflow_mul-sum
overflow_mul-sum g c = (fit c.requires.0.times (omega (arith, c.requires.0.rises)) (omega arith) c.area-sum.ensures.within).fits

pub half_up-requires : goal.half_up-requires
half_up-requires g c = (omega (arith, c.requires.0.rises), (fit c.requires.0.times (omega (arith, c.requires.0.rises)) (omega arith) c.area-sum.ensures.within).limit)

pub overflow_cast-result : goal.overflow_cast-result
overflow_cast-result g c = (valued (fit c.requires.0.times (omega (arith, c.requires.0.rises)) (omega arith) c.area-sum.ensures.within) c.half_up.ensures).fits

pub returns : goal.returns
returns g c =
    ap whole (valued (fit c.requires.0.times (omega (arith, c.requires.0.rises)) (omega arith) c.area-sum.ensures.within) c.half_up.ensures).is
    ∙ value_is (compensated_z (g.R.ResponseRule.weighs c.args.rule.now) c.args.basis) (course c.args.direction c.args.trace.samples.now) c.args.window c.requires.0.rises c.area-sum.result c.area-sum.ensures.is
