-- What a line says: its first word names a verb, and the words after it are what the verb takes.
use Rattle.std.specs.Prelude.{◌≡◌, ℕ, ◌≤◌, ◌==◌, List, [], ◌∷◌, map, drop, length, codes, Some, None, Option, slice_index_or}
use Rattle.std.specs.Borrow.{Bor}
use Rattle.std.specs.List.{slice_split}
use Rattle.std.specs.Option.{SomeIff}
use Rattle.recording.specs.declared.makes.Make.TheVariants as make
use Rattle.script.specs.declared.command.Choice.TheVariants as choice
use Rattle.script.specs.declared.command.Command.{Command}
use Rattle.script.specs.declared.command.Command.TheVariants as command
use Rattle.script.specs.declared.verb.Verb.{Verb}
use Rattle.script.specs.declared.verb.Verb.TheVariants.{New, Places, Settings, Trial, TrialEnd, TargetTable, TargetPut, TargetAmend, TargetStrike, RuleVariable, RuleSwitching, PutWhole, PutFloating, AmendWhole, AmendFloating, LoadWhole, LoadFloating, Strike, Close, Deliver, Reopen}
use Rattle.script.specs.Figures.{number_of, IsNumber, IsPlace, IsTable, IsAmount, amount_of, IsBytes, IsTarget, target_of, IsWhole, whole_of, IsFloating, floating_of}
use Rattle.script.specs.Verbs.{name_of}

-- ---- lines and words
-- a script is cut at each line feed
abbrev pub lines_of : List ℕ → List (List ℕ)
lines_of script = slice_split (λ b. b == 10) script

-- a line is cut at each space
abbrev pub words_of : List ℕ → List (List ℕ)
words_of line = slice_split (λ b. b == 32) line

-- words, each a part of its line
abbrev pub Words : Type 0
Words = List (Bor (List ℕ))

-- the texts of words
abbrev pub texts_of : Words → List (List ℕ)
texts_of words = map (λ w. w.now) words

-- the word at a place
abbrev pub at : Words → ℕ → Bor (List ℕ)
at words i = slice_index_or words i (record { ref_ptr = (0, 0); now = [] })

abbrev pub word : Words → ℕ → List ℕ
word words i = (at words i).now

-- ---- what each verb takes: so many words, and at each place one of a kind
-- the names of the six settings stand before their numbers
abbrev pub AreNamed : (ℕ → List ℕ) → Type 0
AreNamed w = (w 0 ≡ codes "rate") × (w 2 ≡ codes "reference") × (w 4 ≡ codes "dead-band") × (w 6 ≡ codes "switch") × (w 8 ≡ codes "begin") × (w 10 ≡ codes "end")

abbrev pub AreNumbers : (ℕ → List ℕ) → Type 0
AreNumbers w = IsNumber (w 1) × IsNumber (w 3) × IsNumber (w 5) × IsNumber (w 7) × IsNumber (w 9) × IsNumber (w 11)

-- one word of bytes, or none
abbrev pub TakesBytes : ℕ → (ℕ → List ℕ) → Type 0
TakesBytes n w = (n ≤ 1) × IsBytes (w 0)

abbrev pub Takes : Verb → ℕ → (ℕ → List ℕ) → Type 0
Takes New n w = n ≡ 0
Takes Places n w = (n ≡ 1) × IsTable (w 0)
Takes Settings n w = (n ≡ 12) × AreNamed w × AreNumbers w
Takes Trial n w = (n ≡ 2) × IsNumber (w 0) × IsNumber (w 1)
Takes TrialEnd n w = n ≡ 0
Takes TargetTable n w = n ≡ 0
Takes TargetPut n w = (n ≡ 2) × IsTarget (w 0) (w 1)
Takes TargetAmend n w = (n ≡ 3) × IsPlace (w 0) × IsTarget (w 1) (w 2)
Takes TargetStrike n w = (n ≡ 1) × IsPlace (w 0)
Takes RuleVariable n w = n ≡ 0
Takes RuleSwitching n w = n ≡ 0
Takes PutWhole n w = (n ≡ 3) × IsWhole (w 0) (w 1) (w 2)
Takes PutFloating n w = (n ≡ 3) × IsFloating (w 0) (w 1) (w 2)
Takes AmendWhole n w = (n ≡ 4) × IsPlace (w 0) × IsWhole (w 1) (w 2) (w 3)
Takes AmendFloating n w = (n ≡ 4) × IsPlace (w 0) × IsFloating (w 1) (w 2) (w 3)
Takes LoadWhole n w = TakesBytes n w
Takes LoadFloating n w = TakesBytes n w
Takes Strike n w = (n ≡ 1) × IsPlace (w 0)
Takes Close n w = n ≡ 0
Takes Deliver n w = (n ≡ 2) × IsAmount (w 1)
Takes Reopen n w = n ≡ 0

-- ---- what each verb says with its words
abbrev pub first_of : Words → Option (Bor (List ℕ))
first_of [] = None
first_of (w ∷ ws) = Some w

abbrev pub meant : Verb → Words → Command
meant New ws = command.New
meant Places ws = command.Places (number_of (word ws 0))
meant Settings ws = command.Settings (record {
  rate = number_of (word ws 1);
  reference_dip = number_of (word ws 3);
  dead_band = number_of (word ws 5);
  switch_dip = number_of (word ws 7);
  base_begin = number_of (word ws 9);
  base_end = number_of (word ws 11);
})
meant Trial ws = command.Trial (number_of (word ws 0)) (number_of (word ws 1))
meant TrialEnd ws = command.TrialEnd
meant TargetTable ws = command.TargetTable
meant TargetPut ws = command.TargetPut (target_of (word ws 0) (word ws 1))
meant TargetAmend ws = command.TargetAmend (number_of (word ws 0)) (target_of (word ws 1) (word ws 2))
meant TargetStrike ws = command.TargetStrike (number_of (word ws 0))
meant RuleVariable ws = command.Rule choice.Variable
meant RuleSwitching ws = command.Rule choice.Switching
meant PutWhole ws = command.Put (whole_of (word ws 0) (word ws 1) (word ws 2))
meant PutFloating ws = command.Put (floating_of (word ws 0) (word ws 1) (word ws 2))
meant AmendWhole ws = command.Amend (number_of (word ws 0)) (whole_of (word ws 1) (word ws 2) (word ws 3))
meant AmendFloating ws = command.Amend (number_of (word ws 0)) (floating_of (word ws 1) (word ws 2) (word ws 3))
meant LoadWhole ws = command.Load make.Whole (first_of ws)
meant LoadFloating ws = command.Load make.Floating (first_of ws)
meant Strike ws = command.Strike (number_of (word ws 0))
meant Close ws = command.Close
meant Deliver ws = command.Deliver (at ws 0) (amount_of (word ws 1))
meant Reopen ws = command.Reopen

-- r is what the verb says with the words, or none where they are not what it takes
abbrev pub Tells : Verb → Words → Option Command → Type 0
Tells v ws r = SomeIff r (Takes v (length ws) (word ws)) (meant v ws)

-- ---- what words say
-- the first of them names a verb, which says the command with the rest
pub record Says (words : Words) (c : Command) : Type 0 where
  pub verb : Verb
  pub named : texts_of words ≡ name_of verb ∷ texts_of (drop 1 words)
  pub takes : Takes verb (length (drop 1 words)) (word (drop 1 words))
  pub means : c ≡ meant verb (drop 1 words)

-- words say one command at most
abbrev pub SaysOne : Type 0
SaysOne = (words : Words) (c d : Command) → Says words c → Says words d → c ≡ d
