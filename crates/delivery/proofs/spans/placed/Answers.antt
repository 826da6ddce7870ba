use Rattle.std.proofs.Common.{◌≡◌, ℤ, pos, ◌+ℤ◌, ap, ◌∙◌, arith, w64, SFits, to_z, of_z, rules}
use Rattle.std.proofs.lemmas.Int.{ints, to_z-of_z}
use Rattle.figure.specs.Windows.{cut_at}
use Rattle.delivery.proofs.spans.placed.Goals as goal

pub returns : goal.returns
returns c =
    let x : SFits w64 c.cut.result = search rules in
    let e : to_z w64 (of_z w64 c.cut.result) ≡ cut_at c.args.recovery (pos c.args.disturbance +ℤ c.args.shift +ℤ pos c.args.window.end) =
    to_z-of_z w64 c.cut.result x ∙ c.cut.ensures ∙ ap (cut_at c.args.recovery) (omega (arith, ints)) in
    ap (λ (z : ℤ). record { start = z; end = to_z w64 (of_z w64 c.cut.result); multiplier = c.args.window.multiplier }) (omega (arith, ints))
    ∙ ap (λ (z : ℤ). record { start = pos c.args.disturbance +ℤ c.args.shift +ℤ pos c.args.window.start; end = z; multiplier = c.args.window.multiplier }) e
