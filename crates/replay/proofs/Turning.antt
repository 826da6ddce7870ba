-- Lines in turn: what a line is answered, and what has been answered so far.
use Rattle.std.proofs.Common.{◌≡◌, ℕ, suc, ◌+◌, ◌<◌, List, [], ◌∷◌, ◌++◌, length, get_or, drop, sym, refl, ap, ◌∙◌, subst, inl, inr, arith, append_assoc, append-nil, add-one}
use Rattle.std.proofs.lemmas.List.{length-map, get_or-map}
use Rattle.std.specs.Borrow.{Bor}
use Rattle.std.proofs.Math.Seq.{drop-cons}
use Rattle.script.specs.declared.command.Command.{Command}
use Rattle.script.specs.Lines.{lines_of, Words, texts_of, Says}
use Rattle.replay.specs.declared.reply.Reply.{Reply}
use Rattle.replay.specs.declared.reply.Reply.TheVariants.{NoCall}
use Rattle.replay.specs.declared.session.Session.{Session}
use Rattle.replay.specs.Sessions.{Fresh, Acts}
use Rattle.replay.specs.Replays.{Replies, Tells, InTurn, Replays}

-- ---- a line
-- words that say a command are replied to as it is
pub replies_said : (s t : Session) (words : Words) (c : Command) (reply : Reply) → Says words c → Acts s c reply t → Replies s words reply t
replies_said s t words c reply said acts = inl (c, said, acts)

-- words that say none are no call
pub replies_none : (s : Session) (words : Words) → ((c : Command) → Says words c → ⊥) → Replies s words NoCall s
replies_none s words none = inr (none, refl, refl)

-- ---- lines in turn
-- the texts from a place on, where the text of that place is known
texts_from : (ls : Words) (i : ℕ) (l : Bor (List ℕ)) → i < length ls → l ≡ get_or ls i l → drop i (texts_of ls) ≡ l.now ∷ drop (i + 1) (texts_of ls)
texts_from ls i l lt e =
    let there : i < length (texts_of ls) = omega (arith, length-map ls (λ w. w.now), lt) in
    let is : get_or (texts_of ls) i l.now ≡ l.now = get_or-map (λ w. w.now) ls i l l.now lt ∙ ap (λ w. w.now) (sym e) in
    drop-cons (texts_of ls) i l.now there ∙ ap (λ y. y ∷ drop (suc i) (texts_of ls)) is ∙ ap (λ k. l.now ∷ drop k (texts_of ls)) (sym (add-one i))

-- after so many lines: what is answered to the lines still to come from here comes after what has been told
abbrev pub Told : Session → Words → ℕ → Session → List ℕ → Type 0
Told s ls i now told = (rest : List ℕ) → InTurn now (i + 1) (drop i (texts_of ls)) rest → InTurn s 1 (texts_of ls) (told ++ rest)

pub told_more : (s : Session) (ls : Words) (i : ℕ) (now next : Session) (told : List ℕ) → Told s ls i now told → (l : Bor (List ℕ)) → i < length ls → l ≡ get_or ls i l → (more : List ℕ) → Tells now (i + 1) l.now more next → (all : List ℕ) → all ≡ told ++ more → Told s ls (i + 1) next all
told_more s ls i now next told so_far l lt e more tells all is rest h =
    let turn : InTurn now (i + 1) (l.now ∷ drop (i + 1) (texts_of ls)) (more ++ rest) = (next, more, rest, tells, refl, h) in
    let here = subst (λ xs. InTurn now (i + 1) xs (more ++ rest)) (sym (texts_from ls i l lt e)) turn in
    subst (InTurn s 1 (texts_of ls)) (sym (append_assoc told more rest) ∙ ap (λ xs. xs ++ rest) (sym is)) (so_far (more ++ rest) here)

pub told_all : (script : List ℕ) (s : Session) (ls : Words) (i : ℕ) (now : Session) (told : List ℕ) → Fresh s → texts_of ls ≡ lines_of script → i ≡ length ls → Told s ls i now told → Replays script told
told_all script s ls i now told fresh lines end so_far =
    let done : drop i (texts_of ls) ≡ [] = ap (λ k. drop k (texts_of ls)) (end ∙ sym (length-map ls (λ w. w.now))) ∙ nothing_left (texts_of ls) in
    let last : InTurn now (i + 1) (drop i (texts_of ls)) [] = subst (λ xs. InTurn now (i + 1) xs []) (sym done) refl in
    record {
      session = s;
      fresh = fresh;
      in_turn = subst (λ xs. InTurn s 1 xs told) lines (subst (InTurn s 1 (texts_of ls)) (append-nil told) (so_far [] last));
    }
  where
    nothing_left : (xs : List (List ℕ)) → drop (length xs) xs ≡ []
    nothing_left [] = refl
    nothing_left (x ∷ xs) = nothing_left xs
