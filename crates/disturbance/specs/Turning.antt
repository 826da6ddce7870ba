-- Turning: a record mirrored about nominal, and a disturbance to the other side.
use Rattle.std.specs.Prelude.{◌≡◌, ℕ, ◌-◌, ◌*◌, ◌<◌, ◌≤◌, ◌↔◌, List, length, map, ℤ, neg_ℤ, Option, option_map}
use Rattle.recording.specs.declared.sample.Sample.{Sample}
use Rattle.disturbance.specs.declared.direction.Direction.{Direction}
use Rattle.disturbance.specs.declared.disturbance.Disturbance.{Disturbance}
use Rattle.disturbance.specs.Trace.{at, Sound}
use Rattle.disturbance.specs.Direction.{nominal, dip, push}
use Rattle.disturbance.specs.Disturbance.{Disturbed, Undisturbed, disturbance_of}
use Rattle.disturbance.specs.Passing.{turned}
use Rattle.disturbance.specs.Recovery.{Recovered}
use Rattle.disturbance.specs.Trigger.{Triggered}

-- a frequency, mirrored about nominal: as far on the other side
abbrev pub mirrored_frequency : ℕ → ℕ
mirrored_frequency frequency = 2 * nominal - frequency

-- a frequency has a mirrored one where it is at most twice nominal
abbrev pub HasMirror : ℕ → Type 0
HasMirror frequency = frequency ≤ 2 * nominal

-- a sample, mirrored: at the same time the frequency on the other side of nominal, and the power the other way
abbrev pub mirrored : Sample → Sample
mirrored s = record { time = s.time; frequency = mirrored_frequency s.frequency; power = neg_ℤ s.power }

-- a record, mirrored sample by sample
abbrev pub mirrored_record : List Sample → List Sample
mirrored_record xs = map mirrored xs

-- every frequency of the record has a mirrored one
abbrev pub Mirrorable : List Sample → Type 0
Mirrorable xs = (k : ℕ) → k < length xs → HasMirror (at xs k).frequency

-- a disturbance at the same time in the other direction
abbrev pub opposite : Disturbance → Disturbance
opposite d = record { time = d.time; direction = turned d.direction }

pub record TurningLaws : Type 0 where
  -- every sound record has a mirrored one
  pub sound_has_mirror : (xs : List Sample) → Sound xs → Mirrorable xs
  -- a sample mirrored twice is the sample
  pub mirrored_twice : (s : Sample) → HasMirror s.frequency → mirrored (mirrored s) ≡ s
  -- the dip of a mirrored frequency in the other direction is the dip of the frequency
  pub dip_turns : (d : Direction) (f : ℕ) → HasMirror f → dip (turned d) (mirrored_frequency f) ≡ dip d f
  -- the push of a power the other way, in the other direction, is the push of the power
  pub push_turns : (d : Direction) (p : ℤ) → push (turned d) (neg_ℤ p) ≡ push d p
  -- the mirrored record is disturbed exactly if the record is: at the same time, in the other direction
  pub disturbance_turns : (xs : List Sample) (d : Disturbance) → Mirrorable xs
      → (Disturbed xs d ↔ Disturbed (mirrored_record xs) (opposite d))
  -- and undisturbed exactly if the record is
  pub no_disturbance_turns : (xs : List Sample) → Mirrorable xs → (Undisturbed xs ↔ Undisturbed (mirrored_record xs))
  -- and so it is worked out
  pub worked_out_turns : (xs : List Sample) → Mirrorable xs
      → disturbance_of (mirrored_record xs) ≡ option_map opposite (disturbance_of xs)
  -- it has recovered at the same milliseconds
  pub recovery_turns : (xs : List Sample) (d : Disturbance) (t : ℕ) → Mirrorable xs
      → (Recovered xs d t ↔ Recovered (mirrored_record xs) (opposite d) t)
  -- and its dip has reached the trigger at the same milliseconds
  pub trigger_turns : (xs : List Sample) (d : Disturbance) (recovery : Option ℕ) (trigger t : ℕ) → Mirrorable xs
      → (Triggered xs d recovery trigger t ↔ Triggered (mirrored_record xs) (opposite d) recovery trigger t)
