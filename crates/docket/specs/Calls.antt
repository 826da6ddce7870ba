-- The calls on a docket by their meaning: a recording by its members, a rule by its trigger and weights; and what they bring.
use Rattle.std.specs.Prelude.{ℕ, List, Result}
use Rattle.recording.specs.declared.refusal.Refusal.{Refusal}
use Rattle.recording.specs.declared.reading.Reading.{Reading}
use Rattle.recording.specs.declared.interface.Member.{Member}
use Rattle.disturbance.specs.declared.disturbance.Disturbance.{Disturbance}
use Rattle.figure.specs.declared.report.Report.{Report}
use Rattle.figure.specs.Asked.{Asked}

-- the calls that an open docket offers
pub data OpenCall : Type 0 where
  put : Reading → OpenCall
  load : List Member → OpenCall
  amend : ℕ → Reading → OpenCall
  strike : ℕ → OpenCall
  close : OpenCall

-- the calls that a closed docket offers
pub data ClosedCall : Type 0 where
  deliver : Asked → ClosedCall
  reopen : ClosedCall

pub data Meaning : Type 0 where
  of_open : OpenCall → Meaning
  of_closed : ClosedCall → Meaning

-- put, load, amend and strike bring a count of samples, close a disturbance and deliver a report, or any of them a refusal;
-- reopen always opens
pub data Outcome : Type 0 where
  counted : Result ℕ Refusal → Outcome
  closed_on : Result Disturbance Refusal → Outcome
  reported : Result Report Refusal → Outcome
  reopened : Outcome
