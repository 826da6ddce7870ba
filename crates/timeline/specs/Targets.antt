-- Targets as entries of a timeline.
use Rattle.std.specs.Prelude.{List, [], ◌∷◌}
use Rattle.recording.specs.declared.refusal.Field.{Field}
use Rattle.timeline.specs.declared.target.Target.{Target}
use Rattle.timeline.specs.Checks.{Check, first_of}
use Rattle.timeline.specs.Entries.{Kind, time_limits, power_limits}

-- the fields of a target, in the checking order
abbrev pub target_fields : Target → List (Check Field)
target_fields t = time_limits t.time ∷ power_limits t.power ∷ []

-- targets, at most 16
abbrev pub targets : Kind Target
targets = record { time = λ t. t.time; outside = λ t. first_of (target_fields t); most = 16 }
