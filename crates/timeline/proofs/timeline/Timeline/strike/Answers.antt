use Rattle.timeline.proofs.Checks.{no_fault}
use Rattle.timeline.proofs.Timelines.{strike_accepted}
use Rattle.timeline.proofs.timeline.Timeline.strike.Goals as goal

pub returns : goal.returns
returns g c =
    record {
      taken_out_or_refused = strike_accepted g.E.Entry.kind c.args.self.count c.args.self.table.now c.args.place _ c.check_strike.ensures.allowed_or_the_first_fault_of_strike.first
          (no_fault _ _ _ _ _ c.check_strike.ensures.allowed_or_the_first_fault_of_strike.answer c.map_err.ensures.variant c.in_ok-map_err.was)
          c.copy_within.ensures.after;
    }
