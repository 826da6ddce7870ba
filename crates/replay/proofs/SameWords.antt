-- Lines with the same words do the same, wherever the words are kept.
use Rattle.std.proofs.Common.{◌≡◌, ℕ, zero, suc, List, length, [], ◌∷◌, drop, get_or, sym, refl, ap, ◌∙◌, subst}
use Rattle.std.proofs.lemmas.List.{length-map}
use Rattle.std.proofs.Math.Path.{fun_ext}
use Rattle.recording.specs.declared.makes.Make.TheVariants as make
use Rattle.script.specs.declared.command.Command.{Command}
use Rattle.script.specs.declared.command.Command.TheVariants as command
use Rattle.script.specs.declared.verb.Verb.{Verb}
use Rattle.script.specs.declared.verb.Verb.TheVariants.{New, Places, Settings, Trial, TrialEnd, TargetTable, TargetPut, TargetAmend, TargetStrike, RuleVariable, RuleSwitching, PutWhole, PutFloating, AmendWhole, AmendFloating, LoadWhole, LoadFloating, Strike, Close, Deliver, Reopen}
use Rattle.script.specs.Figures.{number_of, amount_of, target_of, whole_of, floating_of}
use Rattle.script.specs.Lines.{Words, texts_of, word, first_of, meant, Takes, Says}
use Rattle.script.specs.Verbs.{name_of}
use Rattle.script.proofs.OneCommand.{apart, heads}
use Rattle.replay.specs.declared.reply.Reply.{Reply}
use Rattle.replay.specs.declared.session.Session.{Session}
use Rattle.replay.specs.Sessions.{Acts, digits_of, Delivers, Loads}

-- ---- the words of two lines with the same texts
word_text : (ws : Words) (i : ℕ) → word ws i ≡ get_or (texts_of ws) i []
word_text [] i = refl
word_text (w ∷ ws) zero = refl
word_text (w ∷ ws) (suc i) = word_text ws i

same_words : (ws vs : Words) → texts_of ws ≡ texts_of vs → word ws ≡ word vs
same_words ws vs e = fun_ext (λ i. word_text ws i ∙ ap (λ xs. get_or xs i []) e ∙ sym (word_text vs i))

digits_first : (ws : Words) → digits_of (first_of ws) ≡ get_or (texts_of ws) 0 []
digits_first [] = refl
digits_first (w ∷ ws) = refl

same_digits : (ws vs : Words) → texts_of ws ≡ texts_of vs → digits_of (first_of ws) ≡ digits_of (first_of vs)
same_digits ws vs e = digits_first ws ∙ ap (λ xs. get_or xs 0 []) e ∙ sym (digits_first vs)

-- ---- what a verb does with them
module _ (s t : Session) (r : Reply) where
  along : (P : (ℕ → List ℕ) → Type 0) (f g : ℕ → List ℕ) → f ≡ g → P f → P g
  along P f g e h = subst P e h

  moved : (v : Verb) (ws vs : Words) → word ws ≡ word vs → digits_of (first_of ws) ≡ digits_of (first_of vs) → Acts s (meant v ws) r t → Acts s (meant v vs) r t
  moved New ws vs e d h = h
  moved Places ws vs e d h = along (λ w. Acts s (command.Places (number_of (w 0))) r t) _ _ e h
  moved Settings ws vs e d h = along (λ w. Acts s (command.Settings (record { rate = number_of (w 1); reference_dip = number_of (w 3); dead_band = number_of (w 5); switch_dip = number_of (w 7); base_begin = number_of (w 9); base_end = number_of (w 11) })) r t) _ _ e h
  moved Trial ws vs e d h = along (λ w. Acts s (command.Trial (number_of (w 0)) (number_of (w 1))) r t) _ _ e h
  moved TrialEnd ws vs e d h = h
  moved TargetTable ws vs e d h = h
  moved TargetPut ws vs e d h = along (λ w. Acts s (command.TargetPut (target_of (w 0) (w 1))) r t) _ _ e h
  moved TargetAmend ws vs e d h = along (λ w. Acts s (command.TargetAmend (number_of (w 0)) (target_of (w 1) (w 2))) r t) _ _ e h
  moved TargetStrike ws vs e d h = along (λ w. Acts s (command.TargetStrike (number_of (w 0))) r t) _ _ e h
  moved RuleVariable ws vs e d h = h
  moved RuleSwitching ws vs e d h = h
  moved PutWhole ws vs e d h = along (λ w. Acts s (command.Put (whole_of (w 0) (w 1) (w 2))) r t) _ _ e h
  moved PutFloating ws vs e d h = along (λ w. Acts s (command.Put (floating_of (w 0) (w 1) (w 2))) r t) _ _ e h
  moved AmendWhole ws vs e d h = along (λ w. Acts s (command.Amend (number_of (w 0)) (whole_of (w 1) (w 2) (w 3))) r t) _ _ e h
  moved AmendFloating ws vs e d h = along (λ w. Acts s (command.Amend (number_of (w 0)) (floating_of (w 1) (w 2) (w 3))) r t) _ _ e h
  moved LoadWhole ws vs e d h = subst (λ xs. Loads s make.Whole xs r t) d h
  moved LoadFloating ws vs e d h = subst (λ xs. Loads s make.Floating xs r t) d h
  moved Strike ws vs e d h = along (λ w. Acts s (command.Strike (number_of (w 0))) r t) _ _ e h
  moved Close ws vs e d h = h
  moved Deliver ws vs e d h = along (λ w. Delivers s (w 0) (amount_of (w 1)) r t) _ _ e h
  moved Reopen ws vs e d h = h

-- ---- what words say
texts_after : (ws vs : Words) → texts_of ws ≡ texts_of vs → texts_of (drop 1 ws) ≡ texts_of (drop 1 vs)
texts_after ws vs e = sym (after ws) ∙ ap (drop 1) e ∙ after vs
  where
    after : (ws : Words) → drop 1 (texts_of ws) ≡ texts_of (drop 1 ws)
    after [] = refl
    after (w ∷ ws) = refl

tails : {A : Type 0} (x y : A) (xs ys : List A) → x ∷ xs ≡ y ∷ ys → xs ≡ ys
tails x y xs ys e = cc

same_length : (ws vs : Words) → texts_of ws ≡ texts_of vs → length ws ≡ length vs
same_length ws vs e = sym (length-map ws (λ w. w.now)) ∙ ap length e ∙ length-map vs (λ w. w.now)

-- where words say something, other words with the same texts do too
pub says_moved : (ws vs : Words) (c : Command) → texts_of ws ≡ texts_of vs → Says ws c → (d : Command) × Says vs d
says_moved ws vs c e h =
    let rest : texts_of (drop 1 ws) ≡ texts_of (drop 1 vs) = texts_after ws vs e in
    let taken = subst (λ n. Takes h.verb n (word (drop 1 ws))) (same_length (drop 1 ws) (drop 1 vs) rest) h.takes in
    let takes = subst (Takes h.verb (length (drop 1 vs))) (same_words (drop 1 ws) (drop 1 vs) rest) taken in
    (meant h.verb (drop 1 vs), record { verb = h.verb; named = sym e ∙ h.named ∙ ap (λ xs. name_of h.verb ∷ xs) rest; takes = takes; means = refl })

-- what other words with the same texts say does what these say
pub acts_moved : (s t : Session) (r : Reply) (ws vs : Words) (c d : Command) → texts_of ws ≡ texts_of vs → Says ws c → Says vs d → Acts s c r t → Acts s d r t
acts_moved s t r ws vs c d e h k acts =
    let all = sym h.named ∙ e ∙ k.named in
    let verb : h.verb ≡ k.verb = apart h.verb k.verb (heads _ _ _ _ all) in
    let rest : texts_of (drop 1 ws) ≡ texts_of (drop 1 vs) = tails _ _ _ _ all in
    let one = subst (λ x. Acts s x r t) h.means acts in
    let two = moved s t r h.verb (drop 1 ws) (drop 1 vs) (same_words (drop 1 ws) (drop 1 vs) rest) (same_digits (drop 1 ws) (drop 1 vs) rest) one in
    subst (λ x. Acts s x r t) (ap (λ v. meant v (drop 1 vs)) verb ∙ sym k.means) two
