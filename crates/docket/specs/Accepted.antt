-- The accepted record: a list of samples and a mark, and what each call makes of it. It rests on the calls, their arguments and
-- the number of the table's places alone.
use Rattle.std.specs.Prelude.{◌≡◌, ℕ, List, ◌++◌, length, Some, None, Ok, Err, Option, Result}
use Rattle.std.specs.List.{remove}
use Rattle.recording.specs.declared.refusal.Reason.TheVariants.{NoDisturbance}
use Rattle.recording.specs.declared.refusal.Refusal.{Refusal}
use Rattle.recording.specs.declared.sample.Sample.{Sample}
use Rattle.recording.specs.declared.reading.Reading.{Reading}
use Rattle.recording.specs.declared.interface.Member.{Member}
use Rattle.recording.specs.Refusals.{refusal}
use Rattle.timeline.specs.Checks.{first_of}
use Rattle.timeline.specs.Samples.{samples}
use Rattle.timeline.specs.Orders.{time_before}
use Rattle.timeline.specs.Faults.{strike_faults}
use Rattle.disturbance.specs.declared.disturbance.Disturbance.{Disturbance}
use Rattle.disturbance.specs.Disturbance.{Disturbed, Undisturbed}
use Rattle.docket.specs.Reasons.{samples_in, amended, put_reasons, amend_reasons}
use Rattle.docket.specs.Loading.{located, load_fault, all_samples}

-- samples with the mark open, or closed
pub data Accepted : Type 0 where
  opened : List Sample → Accepted
  closed : List Sample → Accepted

-- the accepted samples, whatever the mark
abbrev pub samples_of : Accepted → List Sample
samples_of (opened xs) = xs
samples_of (closed xs) = xs

-- an edit of the accepted samples: what they are after it, and what it answers
pub record Edit : Type 0 where
  pub samples : List Sample
  pub answer : Result ℕ Refusal

-- the new samples and how many they are; or, with a refusal, the old ones
abbrev pub edit : Option Refusal → (new old : List Sample) → Edit
edit None new old = record { samples = new; answer = Ok (length new) }
edit (Some why) new old = record { samples = old; answer = Err why }

-- put adds its sample at the end
abbrev pub put_edit : ℕ → List Sample → Reading → Edit
put_edit places xs r = edit (located (length xs) 0 (first_of (put_reasons places xs r))) (xs ++ samples_in r) xs

-- amend replaces the sample at its place
abbrev pub amend_edit : List Sample → ℕ → Reading → Edit
amend_edit xs i r = edit (located i 0 (first_of (amend_reasons xs i r))) (amended xs i r) xs

-- strike takes the sample at its place out
abbrev pub strike_edit : List Sample → ℕ → Edit
strike_edit xs i = edit (located i 0 (first_of (strike_faults xs i))) (remove xs i) xs

-- load adds the samples of all members in order
abbrev pub record_fault : ℕ → List Sample → List Member → Option Refusal
record_fault places xs ms = load_fault places (length xs) (time_before samples xs (length xs)) 0 ms

abbrev pub load_edit : ℕ → List Sample → List Member → Edit
load_edit places xs ms = edit (record_fault places xs ms) (xs ++ all_samples ms) xs

-- close on samples answers their disturbance, or that they have none
abbrev pub Closes : List Sample → Result Disturbance Refusal → Type 0
Closes xs (Ok d) = Disturbed xs d
Closes xs (Err why) = Undisturbed xs × (why ≡ refusal NoDisturbance 0 0)

-- and turns the mark to closed where there is one
abbrev pub close_record : List Sample → Result Disturbance Refusal → Accepted
close_record xs (Ok d) = closed xs
close_record xs (Err why) = opened xs
