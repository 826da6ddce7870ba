-- The exact delivery, and how the reported one stands to it.
use Rattle.std.specs.Prelude.{◌≡◌, ℕ, List, ℤ, pos, Some, Option, ◌≢◌}
use Rattle.exact.specs.Fractions.{Fraction, whole, ◌⊕◌, ◌≺◌}
use Rattle.recording.specs.declared.sample.Sample.{Sample}
use Rattle.disturbance.specs.declared.disturbance.Disturbance.{Disturbance}
use Rattle.figure.specs.declared.report.Report.{Report}
use Rattle.figure.specs.declared.report.Verdict.{Verdict}
use Rattle.figure.specs.declared.report.Verdict.TheVariants.{Met, Short}
use Rattle.figure.specs.Steps.{unrounded, delivery}
use Rattle.figure.specs.Asked.{Asked, Times, shift_in, case_of}

-- x is the exact delivery: the same steps with every half-up left out; recovery, trigger time and shift stay whole
pub record ExactDelivery (xs : List Sample) (d : Disturbance) (a : Asked) (x : Fraction) : Type 0 where
  pub recovery : Option ℕ
  pub trigger_time : Option ℕ
  pub times : Times xs d a recovery trigger_time
  pub shift : ℤ
  pub shifted : shift_in d a trigger_time ≡ Some shift
  pub is : x ≡ delivery unrounded (case_of xs d a recovery shift)

-- less than one watt apart, up or down
pub record WithinOneWatt (x y : Fraction) : Type 0 where
  pub below : x ≺ y ⊕ whole (pos 1)
  pub above : y ≺ x ⊕ whole (pos 1)

-- nobody whose exact delivery is below the amount is called met, nobody whose exact delivery is above it short
pub record Fair (exact : Fraction) (amount : ℤ) (verdict : Verdict) : Type 0 where
  pub below : exact ≺ whole amount → verdict ≢ Met
  pub above : whole amount ≺ exact → verdict ≢ Short

-- a report against the exact delivery
pub record Faithful (xs : List Sample) (d : Disturbance) (a : Asked) (report : Report) : Type 0 where
  pub exact : Fraction
  pub is_exact : ExactDelivery xs d a exact
  pub near : WithinOneWatt (whole report.delivery) exact
  pub fair : Fair exact a.amount report.verdict
