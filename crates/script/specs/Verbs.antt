-- Verbs and their names.
use Rattle.std.specs.Prelude.{◌≡◌, ℕ, List, codes}
use Rattle.script.specs.declared.verb.Verb.{Verb}
use Rattle.script.specs.declared.verb.Verb.TheVariants.{New, Places, Settings, Trial, TrialEnd, TargetTable, TargetPut, TargetAmend, TargetStrike, RuleVariable, RuleSwitching, PutWhole, PutFloating, AmendWhole, AmendFloating, LoadWhole, LoadFloating, Strike, Close, Deliver, Reopen}

-- the name of a verb
abbrev pub name_of : Verb → List ℕ
name_of New = codes "new"
name_of Places = codes "places"
name_of Settings = codes "settings"
name_of Trial = codes "trial"
name_of TrialEnd = codes "trial-end"
name_of TargetTable = codes "target-table"
name_of TargetPut = codes "target-put"
name_of TargetAmend = codes "target-amend"
name_of TargetStrike = codes "target-strike"
name_of RuleVariable = codes "rule-variable"
name_of RuleSwitching = codes "rule-switching"
name_of PutWhole = codes "put-whole"
name_of PutFloating = codes "put-floating"
name_of AmendWhole = codes "amend-whole"
name_of AmendFloating = codes "amend-floating"
name_of LoadWhole = codes "load-whole"
name_of LoadFloating = codes "load-floating"
name_of Strike = codes "strike"
name_of Close = codes "close"
name_of Deliver = codes "deliver"
name_of Reopen = codes "reopen"

-- no two verbs have one name
abbrev pub Apart : Type 0
Apart = (v w : Verb) → name_of v ≡ name_of w → v ≡ w
