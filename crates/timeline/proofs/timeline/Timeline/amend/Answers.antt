use Rattle.timeline.proofs.Checks.{no_fault}
use Rattle.timeline.proofs.Timelines.{amend_accepted}
use Rattle.timeline.proofs.timeline.Timeline.amend.Goals as goal

pub returns : goal.returns
returns g c =
    record {
      replaced_at_the_place_or_refused = amend_accepted g.E.Entry.kind c.args.self.count c.args.self.table.now c.args.place c.args.e c.check_amend.ensures.allowed_or_the_first_fault_of_amend.first
          (no_fault _ _ _ _ _ c.check_amend.ensures.allowed_or_the_first_fault_of_amend.answer c.map_err.ensures.variant c.in_ok-map_err.was);
    }
