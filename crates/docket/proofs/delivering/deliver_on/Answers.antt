-- What the figure promises of the trace is promised of the docket's samples.
use Rattle.figure.proofs.Barred.{refused_by_defects}
use Rattle.docket.proofs.delivering.deliver_on.Goals as goal

pub returns : goal.returns
returns g c =
    let said = c.deliver.ensures in
    record {
      disturbance = c.args.disturbance;
      disturbed = c.requires;
      the_report_of_the_steps_or_the_first_defect = said.the_report_of_the_steps_or_the_first_defect;
      no_other_answer = said.no_other_answer;
      less_than_a_watt_from_exact_and_fair = said.less_than_a_watt_from_exact_and_fair;
      refused_exactly_where_a_defect_applies = refused_by_defects _ _ _ _ said.the_report_of_the_steps_or_the_first_defect;
    }
