-- Close says of sound samples what the rule of the disturbance says.
use Rattle.std.proofs.Common.{◌≡◌, ℕ, false, ltb, List, take, Some, None, Ok, Err, Option, Result, MatchResult, pos, negsuc, refl, ap, subst, arith}
use lib.Signed.{lt_z}
use Rattle.std.proofs.lemmas.Int.{ints}
use Rattle.std.proofs.lemmas.Bool.Decides.{nat_tests}
use Rattle.std.proofs.lemmas.Bool.{or_parts}
use Rattle.recording.specs.declared.refusal.Reason.TheVariants.{OtherTable, NoDisturbance}
use Rattle.recording.specs.declared.refusal.Reason.{Reason}
use Rattle.recording.specs.declared.refusal.Refusal.{Refusal}
use Rattle.recording.specs.declared.sample.Sample.{Sample}
use Rattle.recording.specs.Refusals.{refusal}
use Rattle.timeline.specs.Samples.{samples, sample_fields}
use Rattle.timeline.specs.Orders.{Ordered, Sound}
use Rattle.timeline.proofs.Checks.{none_found}
use Rattle.disturbance.specs.declared.disturbance.Disturbance.{Disturbance}
use Rattle.disturbance.specs.Trace.{at, Within, Sound as SoundTrace}
use Rattle.disturbance.specs.Disturbance.{Disturbed, Undisturbed, Answers, disturbance_of}
use Rattle.disturbance.proofs.Found.{disturbance_laws_lem}
use Rattle.docket.specs.declared.docket.OpenDocket.{OpenDocket}
use Rattle.docket.specs.Accepted.{Closes}
use Rattle.docket.specs.Dockets.{ClosesOn, ClosesExactly}

-- ---- samples in order are a trace's
within_of : (s : Sample) → samples.outside s ≡ None → Within s
within_of s h =
    let (t, (f, (p, _))) = none_found (sample_fields s) h in
    let f' = or_parts (ltb s.frequency 47000) (ltb 52000 s.frequency) f in
    let p' = or_parts (lt_z s.power (negsuc 999999999)) (lt_z (pos 1000000000) s.power) p in
    let time : ltb 1200000 s.time ≡ false = t in
    let least : ltb s.frequency 47000 ≡ false = f'.0 in
    let greatest : ltb 52000 s.frequency ≡ false = f'.1 in
    let low : lt_z s.power (negsuc 999999999) ≡ false = p'.0 in
    let high : lt_z (pos 1000000000) s.power ≡ false = p'.1 in
    (grind (arith, nat_tests), grind (arith, nat_tests), grind (arith, nat_tests), grind (arith, ints, nat_tests), grind (arith, ints, nat_tests))

pub trace_sound : (xs : List Sample) → Ordered samples xs → SoundTrace xs
trace_sound xs o = (λ k lt. o.rising k _ lt, λ k lt. within_of (at xs k) (o.within k _ lt))

-- ---- close answers by the rule exactly
pub closes_exactly : (xs : List Sample) (o : Result Disturbance Refusal) → Closes xs o → ClosesExactly xs o
closes_exactly xs (Ok d) is = record {
  closed_on = λ e. (λ h. let same : d ≡ e = cc in subst (Disturbed xs) same is, λ k. ap Ok (disturbance_laws_lem.same xs d e is k));
  refused = (λ h. let z : ◌≡◌ {A = ℕ} 0 1 = cc in absurd (omega arith), λ none. absurd (none d is));
}
closes_exactly xs (Err why) is = record {
  closed_on = λ e. (λ h. let z : ◌≡◌ {A = ℕ} 0 1 = cc in absurd (omega arith), λ k. absurd (is.0 k.place k.leaves.holds));
  refused = (λ h d k. is.0 k.place k.leaves.holds, λ h. ap Err is.1);
}

-- the answer of the disturbance that is worked out
abbrev pub answer_of : Option Disturbance → Result Disturbance Refusal
answer_of (Some d) = Ok d
answer_of None = Err (refusal NoDisturbance 0 0)

answers_by : (xs : List Sample) (o : Option Disturbance) → Answers xs o → Closes xs (answer_of o)
answers_by xs (Some d) is = is
answers_by xs None none = (none, refl)

pub closed_by : (xs : List Sample) → SoundTrace xs → Closes xs (answer_of (disturbance_of xs))
closed_by xs sound = answers_by xs (disturbance_of xs) (disturbance_laws_lem.answers xs sound)

-- ---- close on a table, from what is found of its counted samples
-- close with this reason
abbrev FoundOn : OpenDocket → List Sample → Result Disturbance Reason → Type 0
FoundOn docket table o = MatchResult o (λ d. Disturbed (take docket.count table) d) (λ why. Undisturbed (take docket.count table) × (why ≡ NoDisturbance))

pub closed_found : (d : OpenDocket) (t : List Sample) (x : Disturbance) → (Sound samples d.count t → FoundOn d t (Ok x)) → ((Sound samples d.count t → ⊥) → ◌≡◌ {A = Result Disturbance Reason} (Ok x) (Err OtherTable))
    → ClosesOn d t (Ok (record { count = d.count; disturbance = x }))
closed_found d t x own other = record { own = own; other = λ n. absurd (let e = other n in cc); docket_is = refl }

pub kept_found : (d : OpenDocket) (t : List Sample) (why : Reason) → (Sound samples d.count t → FoundOn d t (Err why)) → ((Sound samples d.count t → ⊥) → ◌≡◌ {A = Result Disturbance Reason} (Err why) (Err OtherTable))
    → ClosesOn d t (Err (record { docket = d; refusal = refusal why 0 0 }))
kept_found d t why own other = record {
  own = λ s. let is = own s in (is.0, ap (λ r. refusal r 0 0) is.1);
  other = λ n. let e = other n in let same : why ≡ OtherTable = cc in ap (λ r. Err (refusal r 0 0)) same;
  docket_is = refl;
}
