use Rattle.std.proofs.Common.{take, length, map}
use Rattle.calls.specs.Calls.{meaning_of}
use Rattle.calls.proofs.Running.{Running}
use Rattle.calls.proofs.run.run.Given as goal

-- the calls before the place have been run
abbrev pub invariant-loop-place : goal.invariant-loop-place
invariant-loop-place g l =
    Running l.initial.table (take (length l.initial.answers) (map (meaning_of g.R.Recording.meaning g.P.ResponseRule.triggers g.P.ResponseRule.weighs) l.calls)) l.initial.answers l.place l.state l.table l.answers
