use Rattle.std.proofs.Common.{ap, ◌∙◌, subst}
use Rattle.response.specs.declared.group.Row.{Row}
use Rattle.response.specs.declared.service.Side.{Side}
use Rattle.response.specs.Groups.{row_of}
use Rattle.response.specs.Groups.{Sound as SoundRow}
use Rattle.response.specs.Services.{listed}
use Rattle.figure.specs.Asked.{Asked, asked, with_row}
use Rattle.figure.specs.Reports.{Delivers}
use Rattle.figure.proofs.Once.{one_answer}
use Rattle.delivery.proofs.Answering.{made_faithful}
use Rattle.delivery.proofs.deliver.deliver.Goals as goal

-- the side and the row that a service answers are those that it is listed with
pub returns : goal.returns
returns g c =
    let xs = c.args.trace.samples.now in
    let d = c.args.disturbance in
    let a : Asked = asked g.R.ResponseRule.triggers g.R.ResponseRule.weighs c.args.request in
    let row = c.row-row.ensures.row_of_the_group_in_the_table ∙ ap row_of c.group.ensures.group_in_the_list_of_services in
    let h =
    subst (λ (w : Row). Delivers xs d (with_row (listed c.args.request.enablement.service).side w a) c.deliver_over.result) row
    (subst (λ (side : Side). Delivers xs d (with_row side c.row-row.result a) c.deliver_over.result) c.side.ensures.side_in_the_list_of_services c.deliver_over.ensures) in
    record {
      the_report_of_the_steps_or_the_first_defect = h;
      no_other_answer = λ s given. one_answer xs d a s _ given h;
      less_than_a_watt_from_exact_and_fair = made_faithful xs d a _ c.args.trace.sound (subst SoundRow row c.row-row.ensures.windows_can_be_averaged) h;
    }
