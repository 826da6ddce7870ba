use Rattle.timeline.proofs.Checks.{no_fault}
use Rattle.timeline.proofs.Timelines.{put_accepted}
use Rattle.timeline.proofs.timeline.Timeline.put.Goals as goal

pub returns : goal.returns
returns g c =
    record {
      added_at_the_end_or_refused = put_accepted g.E.Entry.kind c.args.self.count c.args.self.table.now c.args.e c.check_put.ensures.allowed_or_the_first_fault_of_put.first
          (no_fault _ _ _ _ _ c.check_put.ensures.allowed_or_the_first_fault_of_put.answer c.map_err.ensures.variant c.in_ok-map_err.was)
          c.add_last.result _ c.add_last.ensures.count c.add_last.ensures.table;
    }
