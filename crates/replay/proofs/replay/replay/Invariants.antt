use Rattle.std.proofs.Common.{string_bytes}
use Rattle.replay.proofs.Turning.{Told}
use Rattle.replay.proofs.replay.replay.Given as goal

-- the lines before the place have been answered
abbrev pub invariant-loop-place : goal.invariant-loop-place
invariant-loop-place l = Told l.initial.session l.line-items l.place l.session (string_bytes l.text)
