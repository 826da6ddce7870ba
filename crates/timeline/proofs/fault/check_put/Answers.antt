-- What is put at the end is added after the counted entries.
use Rattle.std.proofs.Common.{Ok, Err}
use Rattle.std.proofs.lemmas.Result.{err_from_is_err_and}
use Rattle.timeline.proofs.Faults.{sound_allowed, put_allows}
use Rattle.timeline.proofs.fault.check_put.Goals as goal

pub returns-in_err-after : goal.returns-in_err-after
returns-in_err-after g c =
    let kind = g.E.Entry.kind in
    let p = err_from_is_err_and c.from_residual-in_err-after.result c.from_residual-in_err-after.ensures.1 in
    record { allowed_or_the_first_fault_of_put = rw (p.1, p.2) (put_allows kind c.args.count c.args.table.now c.args.e.now (sound_allowed kind c.args.count c.args.table.now c.in_ok-check_table.ensures.allowed_or_other_table) (Err c.in_err-after.field-0.0) (rw c.of-end.ensures.end_of_the_counted_entries at c.in_err-after.ensures.end_with_the_entry_or_the_first_reason)) }

pub returns : goal.returns
returns g c =
    let kind = g.E.Entry.kind in
    record { allowed_or_the_first_fault_of_put = put_allows kind c.args.count c.args.table.now c.args.e.now (sound_allowed kind c.args.count c.args.table.now c.in_ok-check_table.ensures.allowed_or_other_table) (Ok c.in_ok-after.field-0) (rw c.of-end.ensures.end_of_the_counted_entries at c.in_ok-after.ensures.end_with_the_entry_or_the_first_reason) }
