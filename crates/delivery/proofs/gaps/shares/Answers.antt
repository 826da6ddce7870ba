use Rattle.std.proofs.Common.{◌^◌, ◌<◌, ◌∙◌, arith, w64, SFits, rules}
use Rattle.std.proofs.lemmas.Int.{to_z-of_z, to_z_pos}
use Rattle.delivery.proofs.Signs.{decides_lt_z}
use Rattle.delivery.proofs.gaps.shares.Goals as goal

pub returns : goal.returns
returns c =
    let x : SFits w64 c.max.result = search rules in
    let y : SFits w64 c.min.result = search rules in
    let s : SFits w64 c.args.span.start = search rules in
    let e : SFits w64 c.args.span.end = search rules in
    let a : c.args.a.time < 2 ^ 63 = omega arith in
    let b : c.args.b.time < 2 ^ 63 = omega arith in
    let m = to_z-of_z w64 c.max.result x ∙ (simp (to_z-of_z, to_z_pos) at c.max.ensures.value) in
    let n = to_z-of_z w64 c.min.result y ∙ (simp (to_z-of_z, to_z_pos) at c.min.ensures.value) in
    simp (m, n) (decides_lt_z _ _)
