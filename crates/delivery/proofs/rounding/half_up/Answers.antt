-- What the division gives is half-up, and nothing overflows on the way.
use Rattle.std.proofs.Common.{◌*◌, ◌^◌, ◌<◌, pos, ◌+ℤ◌, ◌*ℤ◌, sym, ◌∙◌, arith, SFits, rules}
use mir.Syntax.{w128}
use Rattle.std.proofs.lemmas.Int.{to_z-of_z, to_z_pos, ints}
use Rattle.exact.proofs.Rounding.{half_up_frac}
use Rattle.exact.proofs.Limits.{within_out}
use Rattle.delivery.proofs.rounding.half_up.Goals as goal

pub returns : goal.returns
returns c =
    let limits = within_out c.requires.1 in
    let narrow : c.args.d < 2 ^ 127 = omega arith in
    let fits = c.ranges.n in
    let twice : SFits w128 (pos 2 *ℤ c.args.n) = omega (arith, ints) in
    let top : SFits w128 (pos 2 *ℤ c.args.n +ℤ pos c.args.d) = omega (arith, ints) in
    let bottom : SFits w128 (pos (2 * c.args.d)) = omega (arith, ints) in
    let result : SFits w128 c.div_euclid.result = search rules in
    let e = c.div_euclid.ensures in
    simp (to_z-of_z w128 c.div_euclid.result result) ((simp (to_z-of_z, to_z_pos) at e) ∙ sym (half_up_frac c.args.n c.args.d c.requires.0))
