use Rattle.std.proofs.Common.{Some, map, sym, ap, ◌∙◌}
use Rattle.std.specs.List.{slice_get}
use Rattle.timeline.proofs.Orders.{time_at, before_at}
use Rattle.timeline.proofs.order.time_before.Goals as goal

pub returns : goal.returns
returns g c =
    let kind = g.E.Entry.kind in
    let xs = c.args.entries.now in
    let (some, back) = c.in_ok-checked_sub.ensures in
    let there = c.in_ok-entry.ensures.lookup in
    record { time_of_the_entry_before_or_none = ap Some c.time.ensures.answers_the_time_of_the_entry ∙ sym (before_at kind xs c.args.place some ∙ ap (slice_get (map kind.time xs)) (sym back) ∙ time_at kind xs c.in_ok-checked_sub.field-0 c.in_ok-entry.entry.now there.3.0 there.1) }
