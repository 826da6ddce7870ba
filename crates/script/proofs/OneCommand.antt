-- Words say one command at most.
use Rattle.std.proofs.Common.{◌≡◌, List, ◌∷◌, sym, ◌∙◌, ap, drop, rules}
use Rattle.script.specs.declared.command.Command.{Command}
use Rattle.script.specs.Verbs.{Apart}
use Rattle.script.specs.Lines.{Words, Says, SaysOne, meant}

-- lists that are equal begin with the same
pub heads : {A : Type 0} (x y : A) (xs ys : List A) → x ∷ xs ≡ y ∷ ys → x ≡ y
heads x y xs ys e = cc

pub apart : Apart
apart v w e = search rules

one_verb : (words : Words) (c d : Command) (s : Says words c) (t : Says words d) → s.verb ≡ t.verb
one_verb words c d s t = apart s.verb t.verb (heads _ _ _ _ (sym s.named ∙ t.named))

pub says_one : SaysOne
says_one words c d s t = s.means ∙ (ap (λ v. meant v (drop 1 words)) (one_verb words c d s t) ∙ sym t.means)
