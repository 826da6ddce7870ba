-- A list of calls has one run.
use Rattle.std.proofs.Common.{◌≡◌, ℕ, List, [], ◌∷◌, length, take, Ok, Err, Result, sym, refl, ap, ◌∙◌, subst}
use Rattle.recording.specs.declared.refusal.Refusal.{Refusal}
use Rattle.recording.specs.declared.sample.Sample.{Sample}
use Rattle.timeline.specs.Timelines.{over}
use Rattle.disturbance.specs.declared.disturbance.Disturbance.{Disturbance}
use Rattle.disturbance.proofs.Found.{disturbance_laws_lem}
use Rattle.figure.specs.declared.report.Report.{Report}
use Rattle.figure.specs.Reports.{Delivers}
use Rattle.docket.specs.Accepted.{Accepted, opened, closed, samples_of, Closes, close_record}
use Rattle.figure.specs.Asked.{Asked}
use Rattle.docket.specs.Deliveries.{Delivered}
use Rattle.docket.specs.Calls.{Meaning, of_open, of_closed, Outcome, closed_on, reported}
use Rattle.docket.specs.Steps.{Step, put, load, amend, strike, close, deliver, reopen, Unoffered}
use Rattle.calls.specs.declared.answer.Answer.{Answer}
use Rattle.calls.specs.declared.run.NotOffered.{NotOffered}
use Rattle.calls.specs.Answers.{told}
use Rattle.calls.specs.Runs.{Runs, ended, Ran}

-- ---- one delivery, and one answer to a call
pub delivered_once : (xs : List Sample) (q : Asked) (r s : Result Report Refusal) → Delivered xs q r → Delivered xs q s → r ≡ s
delivered_once xs q r s h k =
    let same : h.disturbance ≡ k.disturbance = disturbance_laws_lem.same xs h.disturbance k.disturbance h.disturbed k.disturbed in
    k.no_other_answer r (subst (λ d. Delivers xs d q r) same h.the_report_of_the_steps_or_the_first_defect)

pub closes_once : (xs : List Sample) (o p : Result Disturbance Refusal) → Closes xs o → Closes xs p → o ≡ p
closes_once xs (Ok d) (Ok e) h k = ap Ok (disturbance_laws_lem.same xs d e h k)
closes_once xs (Ok d) (Err g) h k = absurd (k.0 h.place h.leaves.holds)
closes_once xs (Err f) (Ok e) h k = absurd (h.0 k.place k.leaves.holds)
closes_once xs (Err f) (Err g) h k = ap Err (h.1 ∙ sym k.1)

pub step_once : (places : ℕ) (a : Accepted) (c : Meaning) (x y : Outcome) (b d : Accepted) → Step places a c x b → Step places a c y d → (x ≡ y) × (b ≡ d)
step_once places a c x y b d (put xs r) (put ys s) = (refl, refl)
step_once places a c x y b d (load xs ms) (load ys ns) = (refl, refl)
step_once places a c x y b d (amend xs i r) (amend ys j s) = (refl, refl)
step_once places a c x y b d (strike xs i) (strike ys j) = (refl, refl)
step_once places a c x y b d (close xs o is) (close ys p also) = let one = closes_once xs o p is also in (ap closed_on one, ap (close_record xs) one)
step_once places a c x y b d (deliver xs q r is) (deliver ys p s also) = (ap reported (delivered_once xs q r s is also), refl)
step_once places a c x y b d (reopen xs) (reopen ys) = (refl, refl)

-- a call that the mark does not allow has no answer
pub unanswered : (places : ℕ) (a : Accepted) (c : Meaning) (x : Outcome) (b : Accepted) → Unoffered a c → Step places a c x b → ⊥
unanswered places (opened xs) (of_closed c) x b u h = elim h [ ]
unanswered places (closed xs) (of_open c) x b u h = elim h [ ]
unanswered places (opened xs) (of_open c) x b u h = u
unanswered places (closed xs) (of_closed c) x b u h = u

-- ---- one run
runs_once : (places : ℕ) (a : Accepted) (t : List Sample) (cs : List Meaning) (xs ys : List Answer) (u v : List Sample) → Runs places a t cs xs u → Runs places a t cs ys v → (xs ≡ ys) × (u ≡ v)
runs_once places a t [] [] [] u v h k = (refl, h ∙ sym k)
runs_once places a t [] [] (y ∷ ys) u v h k = absurd k
runs_once places a t [] (x ∷ xs) ys u v h k = absurd h
runs_once places a t (c ∷ cs) [] [] u v h k = (refl, h.1 ∙ sym k.1)
runs_once places a t (c ∷ cs) [] (y ∷ ys) u v h (o, next, step, is, rest) = absurd (unanswered places a c o next h.0 step)
runs_once places a t (c ∷ cs) (x ∷ xs) [] u v (o, next, step, is, rest) k = absurd (unanswered places a c o next k.0 step)
runs_once places a t (c ∷ cs) (x ∷ xs) (y ∷ ys) u v (o, next, step, is, rest) (p, next', step', is', rest') =
    let one = step_once places a c o p next next' step step' in
    let more = runs_once places next' (over (samples_of next') t) cs xs ys u v (subst (λ b. Runs places b (over (samples_of b) t) cs xs u) one.1 rest) rest' in
    (ap (λ z. z ∷ xs) (is ∙ ap told one.0 ∙ sym is') ∙ ap (λ zs. y ∷ zs) more.0, more.1)

pub ran_once : (t : List Sample) (calls : List Meaning) (places : List Answer) (r s : Result ℕ NotOffered) (u v : List Sample) (filled filled' : List Answer) → Ran t calls places r u filled → Ran t calls places s v filled'
    → (r ≡ s) × (u ≡ v) × (filled ≡ filled')
ran_once t calls places r s u v filled filled' h k =
    let cs = take (length places) calls in
    let one = runs_once (length t) (opened []) t cs h.answers k.answers u v h.runs k.runs in
    (h.result ∙ ap (λ xs. ended (length xs) (length cs)) one.0 ∙ sym k.result, one.1, h.told ∙ ap (λ xs. over xs places) one.0 ∙ sym k.told)
