-- The trigger time of a disturbance.
use Rattle.std.specs.Prelude.{ℕ, ◌<◌, ◌≤◌, List, Some, None, Option}
use Rattle.recording.specs.declared.sample.Sample.{Sample}
use Rattle.disturbance.specs.declared.disturbance.Disturbance.{Disturbance}
use Rattle.disturbance.specs.Direction.{dip}
use Rattle.disturbance.specs.Line.{LineAt, AtLeast}

-- the time t is before any recovery
abbrev pub Before : Option ℕ → ℕ → Type 0
Before None t = Unit {0}
Before (Some recovery) t = t < recovery

-- from the disturbance time on and before any recovery, the line's dip is at least the trigger at the time t
abbrev pub Triggered : List Sample → Disturbance → Option ℕ → ℕ → ℕ → Type 0
Triggered xs d recovery trigger t = (d.time ≤ t) × Before recovery t × LineAt (AtLeast (dip d.direction) trigger) xs t
