use Rattle.std.proofs.Common.{◌≡◌, ℤ, sym, ap, ◌∙◌, rules}
use Rattle.std.specs.Int.{int_min}
use Rattle.exact.specs.Fractions.{whole, lesser}
use Rattle.exact.proofs.Wholes.{lesser_whole}
use Rattle.delivery.proofs.judging.lesser.Goals as goal

lesser_is : (r a b : ℤ) → r ≡ int_min a b → whole r ≡ lesser (whole a) (whole b)
lesser_is r a b e = ap whole e ∙ sym (lesser_whole a b)

pub returns : goal.returns
returns c = search (rules, lesser_is)
