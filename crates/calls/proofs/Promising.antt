-- Every delivery of a run, from the run.
use Rattle.std.proofs.Common.{◌≡◌, ℕ, suc, ◌+◌, ◌-◌, ◌<◌, ◌≤◌, Bool, true, false, cond, ltb, List, [], ◌∷◌, ◌++◌, length, take, drop, get_or, Ok, Err, Result, sym, refl, ap, ◌∙◌, subst, arith}
use Rattle.std.proofs.lemmas.List.{length-take}
use Rattle.std.proofs.Math.Seq.{take-append-add}
use Rattle.recording.specs.declared.sample.Sample.{Sample}
use Rattle.timeline.specs.Timelines.{over}
use Rattle.docket.specs.Accepted.{Accepted, opened, closed, samples_of}
use Rattle.figure.specs.Asked.{Asked}
use Rattle.docket.specs.Calls.{Meaning, Outcome, of_closed}
use Rattle.docket.specs.Calls as call
use Rattle.docket.specs.Steps.{Step, deliver, LeadsTo}
use Rattle.calls.specs.declared.answer.Answer.{Answer}
use Rattle.calls.specs.declared.run.NotOffered.{NotOffered}
use Rattle.calls.specs.Answers.{told}
use Rattle.calls.specs.Runs.{Runs, ended, Ran}
use Rattle.calls.specs.Promises.{AnsweredAfter, DeliveredAfter, answered, EveryAnswer, EveryDelivery}
use Rattle.calls.proofs.Once.{step_once}

-- calls lead to one record
pub leads_once : (places : ℕ) (a : Accepted) (calls : List Meaning) (b d : Accepted) → LeadsTo places a calls b → LeadsTo places a calls d → b ≡ d
leads_once places a [] b d h k = sym h ∙ k
leads_once places a (c ∷ calls) b d (x, next, step, h) (y, next', step', k) =
    leads_once places next' calls b d (subst (λ z. LeadsTo places z calls b) (step_once places a c x y next next' step step').1 h) k

-- what is answered after the calls that lead to a record
there : (places : ℕ) (a b : Accepted) (k : Meaning) (o : Outcome) (before : List Meaning) (c : Meaning) (x : Answer) → Step places a k o b → AnsweredAfter places b before c x → AnsweredAfter places a (k ∷ before) c x
there places a b k o before c x step h =
    let leads : LeadsTo places a (k ∷ before) h.accepted = (o, b, step, h.led_to) in
    record { accepted = h.accepted; led_to = leads; no_other_record = λ d e. leads_once places a (k ∷ before) d h.accepted e leads; outcome = h.outcome; next = h.next; step = h.step; told_as = h.told_as }

-- in a run
in_run : (places : ℕ) (a : Accepted) (t : List Sample) (before : List Meaning) (c : Meaning) (rest : List Meaning) (answers : List Answer) (left : List Sample) → Runs places a t (before ++ c ∷ rest) answers left
    → length before < length answers → (more : List Answer) (d : Answer) → AnsweredAfter places a before c (get_or (answers ++ more) (length before) d)
in_run places a t [] c rest [] left h lt more d = absurd (omega arith)
in_run places a t [] c rest (x ∷ answers) left (o, next, step, is, runs) lt more d =
    record { accepted = a; led_to = refl; no_other_record = λ b e. sym e; outcome = o; next = next; step = step; told_as = is }
in_run places a t (k ∷ before) c rest [] left h lt more d = absurd (omega arith)
in_run places a t (k ∷ before) c rest (x ∷ answers) left (o, next, step, is, runs) lt more d =
    there places a next k o before c _ step (in_run places next (over (samples_of next) t) before c rest answers left runs (omega arith) more d)

-- ---- the calls that have places for their answers
runs_count : (places : ℕ) (a : Accepted) (t : List Sample) (calls : List Meaning) (answers : List Answer) (left : List Sample) → Runs places a t calls answers left → length answers ≤ length calls
runs_count places a t [] [] left h = omega arith
runs_count places a t [] (x ∷ answers) left h = absurd h
runs_count places a t (c ∷ calls) [] left h = omega arith
runs_count places a t (c ∷ calls) (x ∷ answers) left (o, next, step, is, runs) = omega (arith, runs_count places next (over (samples_of next) t) calls answers left runs)

split : (n : ℕ) (before : List Meaning) (c : Meaning) (rest : List Meaning) → length before < n → take n (before ++ c ∷ rest) ≡ before ++ c ∷ take (n - length before - 1) rest
split n before c rest lt =
    let m : ℕ = n - length before - 1 in
    let e : n ≡ length before + suc m = omega arith in
    ap (λ (k : ℕ). take k (before ++ c ∷ rest)) e ∙ take-append-add before (c ∷ rest) (suc m)

ended_answered : (n m : ℕ) → answered (ended n m) ≡ n
ended_answered n m = by (ltb n m)
  where
    by : (b : Bool) → answered (cond b (Err (record { place = n })) (Ok n)) ≡ n
    by true = refl
    by false = refl

pub every_answer : (t : List Sample) (calls : List Meaning) (slots : List Answer) (r : Result ℕ NotOffered) (left : List Sample) (filled : List Answer) → Ran t calls slots r left filled → EveryAnswer (length t) calls r filled
every_answer t calls slots r left filled h before c rest e lt d =
    let n = length slots in
    let told : answered r ≡ length h.answers = ap answered h.result ∙ ended_answered (length h.answers) (length (take n calls)) in
    let less : length before < length h.answers = omega (arith, told) in
    let few = runs_count (length t) (opened []) t (take n calls) h.answers left h.runs in
    let enough : length before < n = omega (arith, length-take n calls) in
    let cs : take n calls ≡ before ++ c ∷ take (n - length before - 1) rest = ap (take n) e ∙ split n before c rest enough in
    subst (λ (ys : List Answer). AnsweredAfter (length t) (opened []) before c (get_or ys (length before) d)) (sym h.told)
    (in_run (length t) (opened []) t before c _ h.answers left (subst (λ ys. Runs (length t) (opened []) t ys h.answers left) cs h.runs) less (drop (length h.answers) slots) d)

-- ---- a delivery is on a closed record
by_the_rule : (places : ℕ) (a : Accepted) (before : List Meaning) (q : Asked) (x : Answer) (b : Accepted) (o : Outcome) (next : Accepted) → Step places b (of_closed (call.deliver q)) o next
    → LeadsTo places a before b → ((d : Accepted) → LeadsTo places a before d → d ≡ b) → x ≡ told o → DeliveredAfter places a before q x
by_the_rule places a before q x b o next (deliver xs p r is) leads only says = record { samples = xs; led_to = leads; no_other_record = only; outcome = r; told_as = says; delivered = is }

pub every_delivery : (t : List Sample) (calls : List Meaning) (slots : List Answer) (r : Result ℕ NotOffered) (left : List Sample) (filled : List Answer) → Ran t calls slots r left filled → EveryDelivery (length t) calls r filled
every_delivery t calls slots r left filled h before q rest e lt d =
    let k = every_answer t calls slots r left filled h before (of_closed (call.deliver q)) rest e lt d in
    by_the_rule (length t) (opened []) before q _ k.accepted k.outcome k.next k.step k.led_to k.no_other_record k.told_as
