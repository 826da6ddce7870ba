-- Each law of calls.
use Rattle.calls.proofs.Once.{step_once, unanswered}
use Rattle.calls.proofs.Refusals.{refused_same}
use Rattle.calls.proofs.Promising.{leads_once}
use Rattle.docket.proofs.Histories.{history_timeline}
use Rattle.calls.proofs.laws.call_laws.Goals as goal

pub returns : goal.returns
returns c = record {
  a_refused_call_leaves_the_record_as_it_was = refused_same;
  a_call_has_one_answer_and_leads_to_one_record = step_once;
  a_call_that_is_not_offered_has_no_answer = unanswered;
  calls_lead_to_one_record = leads_once;
  calls_lead_to_a_timeline = λ places calls a h. history_timeline places a (calls, h);
}
