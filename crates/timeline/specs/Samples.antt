-- Samples as entries of a timeline.
use Rattle.std.specs.Prelude.{List, [], ◌∷◌}
use Rattle.recording.specs.declared.refusal.Field.{Field}
use Rattle.recording.specs.declared.sample.Sample.{Sample}
use Rattle.timeline.specs.Checks.{Check, first_of}
use Rattle.timeline.specs.Entries.{Kind, time_limits, frequency_limits, power_limits}

-- the fields of a sample, in the checking order
abbrev pub sample_fields : Sample → List (Check Field)
sample_fields s = time_limits s.time ∷ frequency_limits s.frequency ∷ power_limits s.power ∷ []

-- samples, at most 4,096
abbrev pub samples : Kind Sample
samples = record { time = λ s. s.time; outside = λ s. first_of (sample_fields s); most = 4096 }
