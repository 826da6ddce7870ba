-- A record as its disturbance turns it: dips and pushes in the place of frequencies and powers.
use Rattle.std.specs.Prelude.{ℕ, ◌<◌, List, [], ◌∷◌, map}
use Rattle.recording.specs.declared.sample.Sample.{Sample}
use Rattle.disturbance.specs.declared.direction.Direction.{Direction}
use Rattle.disturbance.specs.Direction.{dip, push}
use Rattle.figure.specs.declared.point.Point.{Point}

-- a sample, turned
abbrev pub turned : Direction → Sample → Point
turned d s = record { time = s.time; dip = dip d s.frequency; push = push d s.power }

-- the points of a record, place by place
abbrev pub course : Direction → List Sample → List Point
course d xs = map (turned d) xs

-- times that strictly rise, all after t
abbrev pub After : ℕ → List Point → Type 0
After t [] = Unit {0}
After t (p ∷ points) = (t < p.time) × After p.time points

-- times that strictly rise
abbrev pub Rises : List Point → Type 0
Rises [] = Unit {0}
Rises (p ∷ points) = After p.time points
