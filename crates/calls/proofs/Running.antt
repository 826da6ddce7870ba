-- Calls run one after the other: what has been answered, and where the docket and its table stand.
use Rattle.std.proofs.Common.{◌≡◌, ℕ, suc, ◌+◌, ◌<◌, Bool, cond, min, List, [], ◌∷◌, ◌++◌, length, map, get_or, take, drop, set, Some, None, Ok, Err, Result, MatchOption, sym, refl, ap, ◌∙◌, subst, arith, append_assoc, append-nil, add-one}
use Rattle.std.proofs.lemmas.List.{length_push, length-take, length-map, take-map, get_or-take, get_or-map}
use Rattle.std.proofs.Math.Seq.{drop-cons, set-append_seam}
use Rattle.std.proofs.lemmas.Bool.{lt-ltb, le-ltb}
use Rattle.recording.specs.declared.sample.Sample.{Sample}
use Rattle.timeline.specs.Timelines.{over}
use Rattle.docket.specs.declared.docket.OpenDocket.{OpenDocket}
use Rattle.docket.specs.Accepted.{Accepted, opened, samples_of}
use Rattle.docket.specs.declared.docket.State.{State}
use Rattle.docket.specs.declared.docket.State.TheVariants.{Open}
use Rattle.docket.specs.Calls.{Meaning, Outcome}
use Rattle.docket.specs.Steps.{Step, Unoffered, History}
use Rattle.docket.specs.Dockets.{record_of, Holds, Follows}
use Rattle.docket.proofs.Histories.{grown_history}
use Rattle.calls.specs.declared.answer.Answer.{Answer}
use Rattle.calls.specs.declared.run.NotOffered.{NotOffered}
use Rattle.calls.specs.declared.turn.Turn.{Turn}
use Rattle.calls.specs.Answers.{told as tell}
use Rattle.calls.specs.States.{TakesTurn}
use Rattle.calls.specs.Runs.{Runs, ended, Ran}

-- after so many of the calls cs, started on the table t: what is still to come from here, come after what has been told, is a run from the start
pub record Running (t : List Sample) (cs : List Meaning) (places : List Answer) (place : ℕ) (state : State) (table : List Sample) (answers : List Answer) : Type 0 where
  pub accepted : Accepted
  pub history : History (length t) accepted
  pub holds : Holds (length t) accepted state table
  pub told : List Answer
  pub count : length told ≡ place
  pub written : answers ≡ over told places
  pub runs : (more : List Answer) (left : List Sample) → Runs (length t) accepted table (drop place cs) more left → Runs (length t) (opened []) t cs (told ++ more) left

pub begun : (t : List Sample) (cs : List Meaning) (places : List Answer) (d : OpenDocket) → Holds (length t) (opened []) (Open d) t → Running t cs places 0 (Open d) t places
begun t cs places d holds = record { accepted = opened []; history = ([], refl); holds = holds; told = []; count = refl; written = refl; runs = λ more left r. r }

-- ---- one turn
written_next : (told places : List Answer) (i : ℕ) (x : Answer) → length told ≡ i → i < length places → set (over told places) i x ≡ over (told ++ x ∷ []) places
written_next told places i x n lt =
    let e : drop (length told) places ≡ get_or places i x ∷ drop (suc i) places = ap (λ k. drop k places) n ∙ drop-cons places i x lt in
    let m : suc i ≡ length (told ++ x ∷ []) = sym (length_push told x ∙ ap (λ k. k + 1) n ∙ add-one i) in
    ap (λ ys. set (told ++ ys) i x) e ∙ ap (λ k. set (told ++ get_or places i x ∷ drop (suc i) places) k x) (sym n) ∙ set-append_seam told (get_or places i x) (drop (suc i) places) x
    ∙ ap (λ k. told ++ x ∷ drop k places) m ∙ sym (append_assoc told (x ∷ []) (drop (length (told ++ x ∷ [])) places))

pub turned : (t : List Sample) (cs : List Meaning) (places : List Answer) (i : ℕ) (state : State) (table : List Sample) (answers : List Answer) → Running t cs places i state table answers
    → (c : Meaning) → drop i cs ≡ c ∷ drop (i + 1) cs → i < length places → (turn : Turn) (left : List Sample) → TakesTurn state table c turn left → (x : Answer) → turn.answer ≡ Some x
    → Running t cs places (i + 1) turn.state left (set answers i x)
turned t cs places i state table answers run c next lt turn left takes x told =
    by (subst (λ o. MatchOption o (Unoffered (record_of state table) c × (left ≡ table)) (λ x. (outcome : Outcome) × (x ≡ tell outcome) × Follows state table c outcome turn.state left)) told takes)
  where
    step : (outcome : Outcome) → x ≡ tell outcome → (next : Accepted) × Step (length t) run.accepted c outcome next × Holds (length t) next turn.state left × (left ≡ over (samples_of next) table) → Running t cs places (i + 1) turn.state left (set answers i x)
    step outcome is (after, taken, holds, laid) = record {
      accepted = after;
      history = grown_history _ _ _ _ _ run.history taken;
      holds = holds;
      told = run.told ++ x ∷ [];
      count = length_push run.told x ∙ ap (λ k. k + 1) run.count;
      written = ap (λ ys. set ys i x) run.written ∙ written_next run.told places i x run.count lt;
      runs = λ more end r.
          let r' : Runs (length t) after (over (samples_of after) table) (drop (i + 1) cs) more end = subst (λ ys. Runs (length t) after ys (drop (i + 1) cs) more end) laid r in
          let all = run.runs (x ∷ more) end (subst (λ ys. Runs (length t) run.accepted table ys (x ∷ more) end) (sym next) (outcome, after, taken, is, r')) in
          subst (λ ys. Runs (length t) (opened []) t cs ys end) (sym (append_assoc run.told (x ∷ []) more)) all;
    }

    by : (outcome : Outcome) × (x ≡ tell outcome) × Follows state table c outcome turn.state left → Running t cs places (i + 1) turn.state left (set answers i x)
    by (outcome, is, follows) = step outcome is (follows (length t) run.accepted run.history run.holds)

-- ---- the end of the list, or a call that is not offered
ran : (t : List Sample) (calls : List Meaning) (places : List Answer) (r : Result ℕ NotOffered) (left : List Sample) (filled told : List Answer) → Runs (length t) (opened []) t (take (length places) calls) (told ++ []) left
    → r ≡ ended (length told) (length (take (length places) calls)) → filled ≡ over told places → Ran t calls places r left filled
ran t calls places r left filled told runs result written = record { answers = told; runs = subst (λ ys. Runs (length t) (opened []) t (take (length places) calls) ys left) (append-nil told) runs; result = result; told = written }

pub finished : (t : List Sample) (calls : List Meaning) (places : List Answer) (i : ℕ) (state : State) (table : List Sample) (answers : List Answer) → Running t (take (length places) calls) places i state table answers
    → (n : ℕ) → i ≡ n → n ≡ length (take (length places) calls) → Ran t calls places (Ok n) table answers
finished t calls places i state table answers run n same all =
    let cs = take (length places) calls in
    let e : i ≡ length cs = same ∙ all in
    let done : drop i cs ≡ [] = ap (λ k. drop k cs) e ∙ nothing_left cs in
    let r = run.runs [] table (subst (λ ys. Runs (length t) run.accepted table ys [] table) (sym done) refl) in
    ran t calls places (Ok n) table answers run.told r (ap Ok (sym (run.count ∙ same)) ∙ all_ended (length run.told) (length cs) (run.count ∙ e)) run.written
  where
    nothing_left : (ys : List Meaning) → drop (length ys) ys ≡ []
    nothing_left [] = refl
    nothing_left (y ∷ ys) = nothing_left ys

    all_ended : (n m : ℕ) → n ≡ m → Ok n ≡ ended n m
    all_ended n m e = sym (ap (λ (b : Bool). cond b (Err (record { place = n })) (Ok n)) (le-ltb n m (omega (arith, e))))

pub stopped : (t : List Sample) (calls : List Meaning) (places : List Answer) (i : ℕ) (state : State) (table : List Sample) (answers : List Answer) → Running t (take (length places) calls) places i state table answers
    → (c : Meaning) → drop i (take (length places) calls) ≡ c ∷ drop (i + 1) (take (length places) calls) → i < length (take (length places) calls) → (turn : Turn) (left : List Sample) → TakesTurn state table c turn left → turn.answer ≡ None
    → Ran t calls places (Err (record { place = i })) left answers
stopped t calls places i state table answers run c next lt turn left takes told =
    let cs = take (length places) calls in
    let none : Unoffered (record_of state table) c × (left ≡ table) =
    subst (λ o. MatchOption o (Unoffered (record_of state table) c × (left ≡ table)) (λ x. (outcome : Outcome) × (x ≡ tell outcome) × Follows state table c outcome turn.state left)) told takes in
    let k : Unoffered run.accepted c × (left ≡ table) = (subst (λ a. Unoffered a c) (sym run.holds.record_is) none.0, none.1) in
    let r = run.runs [] left (subst (λ ys. Runs (length t) run.accepted table ys [] left) (sym next) k) in
    ran t calls places (Err (record { place = i })) left answers run.told r (ap (λ n. Err (record { place = n })) (sym run.count) ∙ cut_short (length run.told) (length cs) (omega (arith, run.count, lt))) run.written
  where
    cut_short : (n m : ℕ) → n < m → Err (record { place = n }) ≡ ended n m
    cut_short n m lt = sym (ap (λ (b : Bool). cond b (Err (record { place = n })) (Ok n)) (lt-ltb n m lt))

-- ---- the calls that have places for their answers
pub length_taken : {X : Type 0} (f : X → Meaning) (xs : List X) (n : ℕ) → length (take n (map f xs)) ≡ min (length xs) n
length_taken f xs n = ap length (take-map f n xs) ∙ length-map (take n xs) f ∙ omega (arith, length-take n xs)

pub call_at : {X : Type 0} (f : X → Meaning) (xs : List X) (n i : ℕ) (x : X) → i < min (length xs) n → x ≡ get_or xs i x → drop i (take n (map f xs)) ≡ f x ∷ drop (i + 1) (take n (map f xs))
call_at f xs n i x lt e =
    let cs : take n (map f xs) ≡ map f (take n xs) = take-map f n xs in
    let there : i < length (take n (map f xs)) = omega (arith, length_taken f xs n) in
    let is : get_or (take n (map f xs)) i (f x) ≡ f x =
    ap (λ ys. get_or ys i (f x)) cs ∙ get_or-map f (take n xs) i x (f x) (omega (arith, length-take n xs)) ∙ ap f (get_or-take n xs i x (omega arith) ∙ sym e) in
    drop-cons (take n (map f xs)) i (f x) there ∙ ap (λ y. y ∷ drop (suc i) (take n (map f xs))) is ∙ ap (λ k. f x ∷ drop k (take n (map f xs))) (sym (add-one i))
