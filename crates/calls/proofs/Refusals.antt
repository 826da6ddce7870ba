-- A call whose answer is a refusal leaves the accepted record as it was.
use Rattle.std.proofs.Common.{◌≡◌, ℕ, List, Some, None, Ok, Err, Option, Result, refl, arith}
use Rattle.recording.specs.declared.refusal.Refusal.{Refusal}
use Rattle.recording.specs.declared.sample.Sample.{Sample}
use Rattle.timeline.specs.Checks.{first_of}
use Rattle.timeline.specs.Faults.{strike_faults}
use Rattle.disturbance.specs.declared.disturbance.Disturbance.{Disturbance}
use Rattle.docket.specs.Reasons.{put_reasons, amend_reasons}
use Rattle.docket.specs.Loading.{located}
use Rattle.docket.specs.Accepted.{Accepted, opened, edit, record_fault, close_record}
use Rattle.docket.specs.Calls.{Meaning, Outcome, counted, closed_on}
use Rattle.docket.specs.Steps.{Step, put, load, amend, strike, close, deliver, reopen}
use Rattle.calls.specs.declared.answer.Answer.TheVariants.{Refused}
use Rattle.calls.specs.Answers.{told}

same_samples : (new old : List Sample) (o : Option Refusal) (f : Refusal) → told (counted (edit o new old).answer) ≡ Refused f → opened (edit o new old).samples ≡ opened old
same_samples new old None f h = let z : ◌≡◌ {A = ℕ} 0 1 = cc in absurd (omega arith)
same_samples new old (Some why) f h = refl

still_open : (xs : List Sample) (o : Result Disturbance Refusal) (f : Refusal) → told (closed_on o) ≡ Refused f → close_record xs o ≡ opened xs
still_open xs (Err why) f h = refl
still_open xs (Ok d) f h = let z : ◌≡◌ {A = ℕ} 0 1 = cc in absurd (omega arith)

pub refused_same : (places : ℕ) (a : Accepted) (c : Meaning) (x : Outcome) (f : Refusal) (next : Accepted) → Step places a c x next → told x ≡ Refused f → next ≡ a
refused_same places a c x f next (put xs r) h = same_samples _ xs (located _ 0 (first_of (put_reasons places xs r))) f h
refused_same places a c x f next (load xs ms) h = same_samples _ xs (record_fault places xs ms) f h
refused_same places a c x f next (amend xs i r) h = same_samples _ xs (located i 0 (first_of (amend_reasons xs i r))) f h
refused_same places a c x f next (strike xs i) h = same_samples _ xs (located i 0 (first_of (strike_faults xs i))) f h
refused_same places a c x f next (close xs o is) h = still_open xs o f h
refused_same places a c x f next (deliver xs q r is) h = refl
refused_same places a c x f next (reopen xs) h = let z : ◌≡◌ {A = ℕ} 0 1 = cc in absurd (omega arith)
