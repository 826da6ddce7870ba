-- What is answered to a delivery on a closed record.
use Rattle.std.specs.Prelude.{◌≡◌, ℕ, List, take, Err, IfOk, Result}
use Rattle.recording.specs.declared.refusal.Refusal.{Refusal}
use Rattle.recording.specs.declared.refusal.Reason.TheVariants.{OtherTable}
use Rattle.recording.specs.declared.sample.Sample.{Sample}
use Rattle.recording.specs.Refusals.{refusal}
use Rattle.timeline.specs.Orders.{Sound}
use Rattle.timeline.specs.Samples.{samples}
use Rattle.disturbance.specs.declared.disturbance.Disturbance.{Disturbance}
use Rattle.disturbance.specs.Disturbance.{Disturbed}
use Rattle.figure.specs.declared.report.Report.{Report}
use Rattle.figure.specs.Asked.{Asked}
use Rattle.figure.specs.Barred.{RefusedExactly}
use Rattle.figure.specs.Exactness.{Faithful}
use Rattle.figure.specs.Reports.{Delivers}

-- r is what a deliver on the samples xs answers
pub record Delivered (xs : List Sample) (q : Asked) (r : Result Report Refusal) : Type 0 where
  pub disturbance : Disturbance
  -- the time and direction are those of the samples
  pub disturbed : Disturbed xs disturbance
  -- the report that the steps define, or the refusal of the first defect in the checking order; and no other
  pub the_report_of_the_steps_or_the_first_defect : Delivers xs disturbance q r
  pub no_other_answer : (s : Result Report Refusal) → Delivers xs disturbance q s → s ≡ r
  -- a report is less than one watt from the exact delivery, and its verdict is fair
  pub less_than_a_watt_from_exact_and_fair : IfOk r (Faithful xs disturbance q)
  -- it is refused exactly where a defect applies, and for one that does
  pub refused_exactly_where_a_defect_applies : RefusedExactly xs disturbance q r

-- the counted samples of a table are sound and have the disturbance that a docket was closed on
pub record Belongs (count : ℕ) (disturbance : Disturbance) (table : List Sample) : Type 0 where
  pub sound : Sound samples count table
  pub disturbed : Disturbed (take count table) disturbance

-- deliver on a docket closed on so many samples and a disturbance, with any table: refused for a table that is another's, before anything else
pub record DeliversFrom (count : ℕ) (disturbance : Disturbance) (table : List Sample) (q : Asked) (r : Result Report Refusal) : Type 0 where
  pub own : Belongs count disturbance table → Delivered (take count table) q r
  pub other : (Belongs count disturbance table → ⊥) → r ≡ Err (refusal OtherTable 0 0)
