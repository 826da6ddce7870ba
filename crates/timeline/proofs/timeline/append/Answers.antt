use Rattle.timeline.proofs.Checks.{ok_none}
use Rattle.timeline.proofs.Timelines.{append_accepted}
use Rattle.timeline.proofs.timeline.append.Goals as goal

pub returns : goal.returns
returns g c =
    let allowed = rw c.of.ensures.end_of_the_counted_entries at c.in_ok-after.ensures.end_with_the_entry_or_the_first_reason in
    record { added_at_the_end_or_refused = append_accepted g.E.Entry.kind c.args.count c.args.table.now c.args.e allowed.first (ok_none _ _ _ allowed.answer) c.add_last.result _ c.add_last.ensures.count c.add_last.ensures.table }
