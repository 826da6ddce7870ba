-- The timeline's put of the sample is the put of the reading.
use Rattle.std.proofs.Common.{sym}
use Rattle.docket.proofs.Reasons.{put_reading_lem}
use Rattle.docket.proofs.putting.put_reading.Goals as goal

pub returns-in-Ok : goal.returns-in-Ok
returns-in-Ok c = put_reading_lem c.args.count c.args.table.now c.args.reading c.in-Ok.sample _ _ (sym c.in-Ok.ensures.as_computed_from_the_fields) c.put.ensures.added_at_the_end_or_refused
