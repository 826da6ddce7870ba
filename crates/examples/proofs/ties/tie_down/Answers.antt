-- The literals are those floats.
use Rattle.std.proofs.Common.{true, negsuc, ap, ◌∙◌}
use lib.Ieee.{of_bits, neg}
use Rattle.recording.specs.Readings.{sampled}
use Rattle.examples.proofs.Halves.{down_is, tied}
use Rattle.examples.proofs.ties.tie_down.Goals as goal

pub returns : goal.returns
unfolding of_bits neg
returns c = record { the_rule_gives_minus_7812_watts_alone = tied true (negsuc 7811) down_is; answers_minus_7812_watts = c.sample.ensures.as_computed_from_the_fields ∙ (ap sampled c.reading_of.ensures ∙ down_is) }
