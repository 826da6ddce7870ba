-- What a base is taken from: the base points on a footing, and the case of which it is the base.
use Rattle.std.specs.Prelude.{List, None}
use Rattle.timeline.specs.declared.target.Target.{Target}
use Rattle.response.specs.Weights.{one}
use Rattle.figure.specs.declared.point.Point.{Point}
use Rattle.figure.specs.Points.{course}
use Rattle.figure.specs.Steps.{Case, base_points}
use Rattle.delivery.specs.declared.footing.Footing.{Footing}

abbrev pub points_on : Footing → List Point
points_on g = base_points g.disturbance.time g.window (course g.disturbance.direction g.trace.samples.now)

-- the case on a footing with these targets; what no base asks is left plain: weights are 1, there is no recovery, and the
-- windows are empty
abbrev pub case_on : Footing → List Target → Case
case_on g targets = record {
  points = course g.disturbance.direction g.trace.samples.now;
  direction = g.disturbance.direction;
  targets = targets;
  disturbance = g.disturbance.time;
  base = g.window;
  weight = λ dip offset. one;
  recovery = None;
  first = record { start = 0; end = 0; multiplier = 1 };
  second = None;
}
