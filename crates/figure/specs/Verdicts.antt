-- How a verdict is told.
use Rattle.std.specs.Prelude.{ℕ, List, codes}
use Rattle.figure.specs.declared.report.Verdict.{Verdict}
use Rattle.figure.specs.declared.report.Verdict.TheVariants.{Met, Level, Short}

-- the word for a verdict
abbrev pub word : Verdict → List ℕ
word Met = codes "met"
word Level = codes "level"
word Short = codes "short"
