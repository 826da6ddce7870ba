-- A script is replayed in one way.
use Rattle.std.proofs.Common.{◌≡◌, ℕ, ◌+◌, inl, inr, List, [], ◌∷◌, ◌++◌, sym, ap, ◌∙◌}
use Rattle.response.proofs.Alike.{same_settings}
use Rattle.script.specs.Lines.{Words, texts_of}
use Rattle.replay.specs.declared.reply.Reply.{Reply}
use Rattle.replay.specs.declared.session.Session.{Session}
use Rattle.replay.specs.Sessions.{Fresh}
use Rattle.replay.specs.Texts.{numbered_text}
use Rattle.replay.specs.Replays.{Replies, Tells, InTurn, Replays}
use Rattle.replay.proofs.SameWords.{says_moved, acts_moved}
use Rattle.replay.proofs.OneReply.{Alike, alike_along, acts_once}

replies_once : (s t : Session) → Alike s t → (ws vs : Words) → texts_of ws ≡ texts_of vs → (r q : Reply) (u v : Session) → Replies s ws r u → Replies t vs q v → (r ≡ q) × Alike u v
replies_once s t a ws vs e r q u v (inl (c, says, acts)) (inl (d, says', acts')) = acts_once s t a d r q u v (acts_moved s u r ws vs c d e says says' acts) acts'
replies_once s t a ws vs e r q u v (inl (c, says, acts)) (inr (none, refused, same)) = let other = says_moved ws vs c e says in absurd (none other.0 other.1)
replies_once s t a ws vs e r q u v (inr (none, refused, same)) (inl (d, says, acts)) = let other = says_moved vs ws d (sym e) says in absurd (none other.0 other.1)
replies_once s t a ws vs e r q u v (inr (none, refused, same)) (inr (none', refused', same')) = (refused ∙ sym refused', alike_along s t u v a same same')

tells_once : (s t : Session) → Alike s t → (number : ℕ) (line x y : List ℕ) (u v : Session) → Tells s number line x u → Tells t number line y v → (x ≡ y) × Alike u v
tells_once s t a number line x y u v (inl (silent, none, same)) (inl (silent', none', same')) = (none ∙ sym none', alike_along s t u v a same same')
tells_once s t a number line x y u v (inl (silent, none, same)) (inr (loud, told)) = absurd (loud silent)
tells_once s t a number line x y u v (inr (loud, told)) (inl (silent, none, same)) = absurd (loud silent)
tells_once s t a number line x y u v (inr (loud, (r, (ws, e, h), is))) (inr (loud', (q, (vs, f, k), is'))) =
    let one = replies_once s t a ws vs (e ∙ sym f) r q u v h k in
    (is ∙ ap (numbered_text number) one.0 ∙ sym is', one.1)

in_turn_once : (s t : Session) → Alike s t → (number : ℕ) (lines : List (List ℕ)) (x y : List ℕ) → InTurn s number lines x → InTurn t number lines y → x ≡ y
in_turn_once s t a number [] x y h k = h ∙ sym k
in_turn_once s t a number (line ∷ lines) x y (u, told, rest, h, is, more) (v, told', rest', k, is', more') =
    let one = tells_once s t a number line told told' u v h k in
    let others = in_turn_once u v one.1 (number + 1) lines rest rest' more more' in
    is ∙ ap (λ z. z ++ rest) one.0 ∙ ap (λ z. told' ++ z) others ∙ sym is'

fresh_alike : (s t : Session) → Fresh s → Fresh t → Alike s t
fresh_alike s t h k = record {
  table = h.table ∙ sym k.table;
  state = h.docket ∙ sym k.docket;
  settings = same_settings s.settings t.settings (h.settings ∙ sym k.settings);
  trial = h.trial ∙ sym k.trial;
  plan = h.plan ∙ sym k.plan;
}

-- a script has one text of answers
pub replays_once : (script x y : List ℕ) → Replays script x → Replays script y → x ≡ y
replays_once script x y h k = in_turn_once h.session k.session (fresh_alike h.session k.session h.fresh k.fresh) 1 _ x y h.in_turn k.in_turn
