-- Worked cases.
use Rattle.std.specs.Prelude.{ℕ, List, [], ◌∷◌, pos, Some}
use Rattle.exact.specs.First.{First}
use Rattle.recording.specs.declared.sample.Sample.{Sample}
use Rattle.disturbance.specs.declared.direction.Direction.TheVariants.{Low}
use Rattle.disturbance.specs.declared.disturbance.Disturbance.{Disturbance}
use Rattle.disturbance.specs.Trace.{Sound}
use Rattle.disturbance.specs.Disturbance.{Disturbed, Undisturbed}
use Rattle.disturbance.specs.Recovery.{Recovered}
use Rattle.disturbance.specs.Trigger.{Triggered}

-- a sample by its time, its frequency and a power that is not negative
abbrev pub sample : ℕ → ℕ → ℕ → Sample
sample t f p = record { time = t; frequency = f; power = pos p }

-- from the edge to just outside it
abbrev pub just_outside : List Sample
just_outside = sample 100 49850 0 ∷ sample 150 49849 0 ∷ []

-- across the band in one step
abbrev pub across : List Sample
across = sample 0 49000 0 ∷ sample 100 51000 0 ∷ []

-- record A
abbrev pub record_a : List Sample
record_a = sample 5000 50000 0 ∷ sample 20000 49850 0 ∷ sample 20050 49750 1000 ∷ sample 20100 50250 1000 ∷ []

-- its disturbance
abbrev pub disturbance_a : Disturbance
disturbance_a = record { time = 20001; direction = Low }

pub record WorkedCases : Type 0 where
  pub outside : Disturbed just_outside (record { time = 101; direction = Low })
  pub none : Undisturbed across
  pub sound : Sound record_a
  pub disturbance : Disturbed record_a disturbance_a
  pub recovery : First (Recovered record_a disturbance_a) 20076
  pub trigger : First (Triggered record_a disturbance_a (Some 20076) 200) 20025
