-- The recovery from a disturbance.
use Rattle.std.specs.Prelude.{ℕ, ◌<◌, List}
use Rattle.recording.specs.declared.sample.Sample.{Sample}
use Rattle.disturbance.specs.declared.disturbance.Disturbance.{Disturbance}
use Rattle.disturbance.specs.Direction.{dip}
use Rattle.disturbance.specs.Line.{LineAt, Under}

-- the dip below which the network has recovered
abbrev pub recovery_dip : ℕ
recovery_dip = 0

-- after the disturbance time, the line's dip is below the recovery dip at the time t
abbrev pub Recovered : List Sample → Disturbance → ℕ → Type 0
Recovered xs d t = (d.time < t) × LineAt (Under (dip d.direction) recovery_dip) xs t
