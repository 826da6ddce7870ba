-- The text of what is delivered of the bytes' members.
use Rattle.std.proofs.Common.{string_bytes, ◌∙◌}
use Rattle.std.proofs.lemmas.Result.{IfOk-weaker}
use Rattle.recording.specs.Makes.{members_of}
use Rattle.report.proofs.Reports.{reports, only_report}
use Rattle.report.proofs.report.report.Goals as goal

pub returns : goal.returns
returns c =
    let bytes = c.args.bytes.now in
    let n = c.new-recording.ensures in
    let s = c.settle-outcome.ensures in
    let ms = members_of c.new-recording.result.make c.new-recording.result.bytes.now in
    let size = c.as_mut_slice.ensures.len ∙ c.in_ok-table.ensures.len in
    record {
      text_of_the_six_deliveries_or_the_refusal = IfOk-weaker c.outcome_text.result _ _ (λ x is. reports bytes _ ms c.plain-settings.result c.variable_rule-rule.result c.settle-outcome.result size c.plain-settings.ensures.has_the_plain_numbers c.variable_rule-rule.ensures n.members_are_the_records_in_order s.the_six_deliveries_or_the_refusal (string_bytes x) is) c.outcome_text.ensures.the_lines_of_the_deliveries_or_the_refusal;
      no_other_text = IfOk-weaker c.outcome_text.result _ _ (λ x is. only_report bytes _ ms c.plain-settings.result c.variable_rule-rule.result c.settle-outcome.result size c.plain-settings.ensures.has_the_plain_numbers c.variable_rule-rule.ensures n.no_other_members s.no_other_settlement (string_bytes x) is) c.outcome_text.ensures.the_lines_of_the_deliveries_or_the_refusal;
    }
