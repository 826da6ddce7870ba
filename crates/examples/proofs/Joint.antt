-- The worked examples: what the crates below prove of them, as answers of a docket closed on record A.
use Rattle.std.proofs.Common.{◌≡◌, true, false, pos, negsuc, Some, Result, sym, subst, arith}
use Rattle.recording.specs.declared.refusal.Refusal.{Refusal}
use Rattle.disturbance.specs.Worked.{record_a, disturbance_a}
use Rattle.exact.specs.First.{First}
use Rattle.disturbance.proofs.Cases.{worked as times}
use Rattle.disturbance.specs.Trigger.{Triggered}
use Rattle.response.specs.declared.group.Group.TheVariants.{Fast}
use Rattle.response.specs.Groups.{row_of, Sound as SoundRow}
use Rattle.response.proofs.WorkedWeights.{worked as weights}
use Rattle.response.specs.declared.settings.Proposal.{Proposal}
use Rattle.response.specs.declared.settings.Settings.{Settings}
use Rattle.response.specs.Settings.{numbers_of}
use Rattle.figure.specs.declared.report.Report.{Report}
use Rattle.figure.specs.Reports.{Delivers}
use Rattle.figure.proofs.Barred.{refused_by_defects}
use Rattle.figure.proofs.Once.{one_answer}
use Rattle.figure.proofs.RecordA.{worked_deliveries_lem}
use Rattle.figure.specs.Asked.{Times}
use Rattle.figure.specs.Worked.{asked_r6, plain_at}
use Rattle.delivery.proofs.Answering.{made_faithful}
use Rattle.docket.specs.Deliveries.{Delivered}
use Rattle.examples.proofs.Halves.{up_is, down_is, tied}
use Rattle.examples.specs.Worked.{by_switching, WorkedExamples}

fast_sound : SoundRow (row_of Fast)
fast_sound = record { first = record { rises = omega arith; length = omega arith; times = (omega arith, omega arith) }; second = record { rises = omega arith; length = omega arith; times = (omega arith, omega arith) } }

module _ (s : _) (trigger : _) (weight : _) (watts : _) (r : Result Report Refusal) where
  delivered : Delivers record_a disturbance_a (asked_r6 s trigger weight watts) r → Delivered record_a (asked_r6 s trigger weight watts) r
  delivered h = record {
    disturbance = disturbance_a;
    disturbed = times.disturbance;
    the_report_of_the_steps_or_the_first_defect = h;
    no_other_answer = λ a d. one_answer _ _ _ a r d h;
    less_than_a_watt_from_exact_and_fair = made_faithful record_a disturbance_a (asked_r6 s trigger weight watts) r times.sound fast_sound h;
    refused_exactly_where_a_defect_applies = refused_by_defects record_a disturbance_a (asked_r6 s trigger weight watts) r h;
  }

-- the trigger is the switch dip, 200 mHz
triggered : (s : Settings) → numbers_of s ≡ plain_at 10000 → Times record_a disturbance_a (by_switching s) (Some 20076) (Some 20025)
triggered s e = record { recovers = times.recovery; triggers = subst (λ (p : Proposal). First (Triggered record_a disturbance_a (Some 20076) p.switch_dip) 20025) (sym e) times.trigger }

pub worked_examples_lem : WorkedExamples
worked_examples_lem =
    let d = worked_deliveries_lem in
    record {
      times = times;
      tie_up = tied false (pos 7813) up_is;
      tie_down = tied true (negsuc 7811) down_is;
      weights = weights;
      met = λ s e. delivered s _ _ _ _ (d.met s e);
      level = λ s e. delivered s _ _ _ _ (d.level s e);
      short = λ s e. delivered s _ _ _ _ (d.short s e);
      closes = times.disturbance;
      triggered = triggered;
      shift = λ s e. d.shift s e;
      switched = λ s e. delivered s _ _ _ _ (d.switched s e);
      gap = λ s e. delivered s _ _ _ _ (d.gap s e);
      weighed_once = λ s e. delivered s _ _ _ _ (d.weighed_once s e);
      weighed_twice = λ s e. delivered s _ _ _ _ (d.weighed_twice s e);
    }
