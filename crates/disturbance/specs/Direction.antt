-- What frequency and power are by the direction of a disturbance.
use Rattle.std.specs.Prelude.{ℕ, ℤ, pos, ◌-ℤ◌, neg_ℤ, List, codes}
use Rattle.disturbance.specs.declared.direction.Direction.{Direction}
use Rattle.disturbance.specs.declared.direction.Direction.TheVariants.{Low, High}

-- the frequency that a network keeps
abbrev pub nominal : ℕ
nominal = 50000

-- how far a frequency lies below nominal, or above it
abbrev pub dip : Direction → ℕ → ℤ
dip Low frequency = pos nominal -ℤ pos frequency
dip High frequency = pos frequency -ℤ pos nominal

-- power, turned where the disturbance is high
abbrev pub push : Direction → ℤ → ℤ
push Low power = power
push High power = neg_ℤ power

-- the word for a direction
abbrev pub word : Direction → List ℕ
word Low = codes "low"
word High = codes "high"
