use Rattle.std.proofs.Common.{rules}
use Rattle.timeline.proofs.Orders.{sound_told}
use Rattle.timeline.proofs.order.is_sound.Goals as goal

pub returns-clause-as_computed_from_the_table : goal.returns-clause-as_computed_from_the_table
returns-clause-as_computed_from_the_table g c = sound_told g.E.Entry.kind c.args.count c.args.table.now c.is_some_and.result (search rules)
