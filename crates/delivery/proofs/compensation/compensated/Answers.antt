-- The product of response and weight fits, and half-up of it is the compensated response.
use Rattle.std.proofs.Common.{ℤ, sym, ap, ◌∙◌, subst, arith, SFits, rules}
use mir.Syntax.{w128}
use Rattle.std.proofs.lemmas.Int.{to_z-of_z}
use Rattle.exact.specs.Limits.{Within}
use Rattle.exact.specs.Fractions.{frac}
use Rattle.exact.specs.Rounding.{half_up}
use Rattle.delivery.proofs.Weighing.{fit, few, meets, compensated_within}
use Rattle.delivery.specs.Limits.{widest_response}
use Rattle.delivery.proofs.compensation.compensated.Goals as goal

pub overflow_mul-response : goal.overflow_mul-response
overflow_mul-response g c = (fit c.power.ensures.within c.args.basis.within (few c.weight_at-weight.result)).fits

pub half_up-requires : goal.half_up-requires
half_up-requires g c = (omega arith, (fit c.power.ensures.within c.args.basis.within (few c.weight_at-weight.result)).limit)

pub returns : goal.returns
returns g c =
    let r : SFits w128 c.half_up.result = search rules in
    let h = fit c.power.ensures.within c.args.basis.within (few c.weight_at-weight.result) in
    let e = to_z-of_z w128 c.half_up.result r ∙ c.half_up.ensures ∙ ap (λ (x : ℤ). half_up (frac x c.weight_at-weight.result.d)) h.is
    ∙ meets (g.R.ResponseRule.weighs c.args.rule.now) c.args.basis c.args.point c.weight_at-weight.result _ c.power.ensures.is c.weight_at-weight.ensures in
    record {
      is = e;
      within = subst (Within widest_response) (sym e) (compensated_within (g.R.ResponseRule.weighs c.args.rule.now) c.args.basis c.args.point c.requires);
    }
