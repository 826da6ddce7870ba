-- The literals are those floats.
use Rattle.std.proofs.Common.{false, pos, ap, ◌∙◌}
use lib.Ieee.{of_bits, neg}
use Rattle.recording.specs.Readings.{sampled}
use Rattle.examples.proofs.Halves.{up_is, tied}
use Rattle.examples.proofs.ties.tie_up.Goals as goal

pub returns : goal.returns
unfolding of_bits neg
returns c = record { the_rule_gives_7813_watts_alone = tied false (pos 7813) up_is; answers_7813_watts = c.sample.ensures.as_computed_from_the_fields ∙ (ap sampled c.reading_of.ensures ∙ up_is) }
