-- Replays of scripts.
use Rattle.std.specs.Prelude.{◌≡◌, ℕ, ◌+◌, ◌⊎◌, List, [], ◌∷◌, ◌++◌, slice_get, Some}
use Rattle.script.specs.declared.command.Command.{Command}
use Rattle.script.specs.Lines.{lines_of, words_of, Words, texts_of, Says}
use Rattle.replay.specs.declared.reply.Reply.{Reply}
use Rattle.replay.specs.declared.reply.Reply.TheVariants.{NoCall}
use Rattle.replay.specs.declared.session.Session.{Session}
use Rattle.replay.specs.Sessions.{Fresh, Acts}
use Rattle.replay.specs.Texts.{numbered_text}

-- a line that has no answer: it has no words, or begins with a number sign
abbrev pub IsSilent : List ℕ → Type 0
IsSilent line = (line ≡ []) ⊎ (slice_get line 0 ≡ Some 35)

-- what the words of a line do: what they say, or nothing where they say nothing
abbrev pub Replies : Session → Words → Reply → Session → Type 0
Replies s words reply t = ((c : Command) × Says words c × Acts s c reply t) ⊎ (((c : Command) → Says words c → ⊥) × (reply ≡ NoCall) × (t ≡ s))

-- the same of a line, which has the words between its spaces
abbrev pub RepliesTo : Session → List ℕ → Reply → Session → Type 0
RepliesTo s line reply t = (words : Words) × (texts_of words ≡ words_of line) × Replies s words reply t

-- the text that the line with this number is answered with
abbrev pub Tells : Session → ℕ → List ℕ → List ℕ → Session → Type 0
Tells s number line told t = (IsSilent line × (told ≡ []) × (t ≡ s)) ⊎ ((IsSilent line → ⊥) × ((r : Reply) × RepliesTo s line r t × (told ≡ numbered_text number r)))

-- lines in turn, the first of them with this number: each is answered in the session that those before it leave
abbrev pub InTurn : Session → ℕ → List (List ℕ) → List ℕ → Type 0
InTurn s number [] text = text ≡ []
InTurn s number (line ∷ lines) text = (t : Session) × (told : List ℕ) × (rest : List ℕ) × Tells s number line told t × (text ≡ told ++ rest) × InTurn t (number + 1) lines rest

-- the text of a script's answers, from a new session
pub record Replays (script text : List ℕ) : Type 0 where
  pub session : Session
  pub fresh : Fresh session
  pub in_turn : InTurn session 1 (lines_of script) text
