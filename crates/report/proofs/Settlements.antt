-- What the calls that settle a recording answer, and the settlement that the answers tell.
use Rattle.std.proofs.Common.{◌≡◌, ℕ, suc, List, [], ◌∷◌, ◌++◌, length, map, get_or, take, drop, Ok, Err, Result, MatchResult, sym, refl, ap, ◌∙◌, subst, arith, append-nil}
use Rattle.std.specs.List.{All, AllZip}
use Rattle.std.proofs.lemmas.List.Elements.{All-cons}
use Rattle.std.proofs.lemmas.Slice.Zip.{AllZip-long}
use Rattle.std.proofs.Math.Seq.{drop-append_seam, take-length}
use Rattle.std.proofs.Math.ListN.{drop_of_length-le}
use Rattle.recording.specs.declared.refusal.Refusal.{Refusal}
use Rattle.recording.specs.declared.sample.Sample.{Sample}
use Rattle.recording.specs.declared.interface.Member.{Member}
use Rattle.timeline.specs.Timelines.{over}
use Rattle.disturbance.specs.declared.disturbance.Disturbance.{Disturbance}
use Rattle.response.specs.declared.service.Service.{Service}
use Rattle.figure.specs.declared.report.Report.{Report}
use Rattle.docket.specs.Accepted.{Accepted, opened, closed, samples_of, load_edit, Closes}
use Rattle.figure.specs.Asked.{Asked}
use Rattle.docket.specs.Deliveries.{Delivered}
use Rattle.docket.specs.Calls.{Meaning, Outcome, of_open, of_closed, counted, reported}
use Rattle.docket.specs.Calls as call
use Rattle.docket.specs.Steps.{Step, load, close, deliver}
use Rattle.calls.specs.declared.answer.Answer.{Answer}
use Rattle.calls.specs.declared.answer.Answer.TheVariants.{Closed, Refused}
use Rattle.calls.specs.Answers.{told}
use Rattle.calls.specs.declared.run.NotOffered.{NotOffered}
use Rattle.calls.specs.Runs.{Runs, Ran}
use Rattle.calls.proofs.Once.{delivered_once, closes_once}
use Rattle.report.specs.declared.settlement.Delivery.{Delivery}
use Rattle.report.specs.Settlements.{services, in_turn, taken, OfDelivery, LoadsAndCloses, Tells, Settles}

-- ---- there is one settlement
abbrev pub telling : Service → Result Report Refusal → Delivery
telling s r = record { service = s; answer = r }

same_delivery : (d e : Delivery) → d.service ≡ e.service → d.answer ≡ e.answer → d ≡ e
same_delivery d e s r = ap (λ x. telling x d.answer) s ∙ ap (telling e.service) r

told_once : (xs : List Sample) (asks : Service → Asked) (ss : List Service) (ds es : List Delivery) → AllZip (Tells xs asks) ss ds → AllZip (Tells xs asks) ss es → ds ≡ es
told_once xs asks [] [] [] h k = refl
told_once xs asks [] [] (e ∷ es) h k = absurd k
told_once xs asks [] (d ∷ ds) es h k = absurd h
told_once xs asks (s ∷ ss) [] es h k = absurd h
told_once xs asks (s ∷ ss) (d ∷ ds) [] h k = absurd k
told_once xs asks (s ∷ ss) (d ∷ ds) (e ∷ es) h k =
    let one = same_delivery d e (h.0.service ∙ sym k.0.service) (delivered_once xs (asks s) d.answer e.answer h.0.answer k.0.answer) in
    ap (λ x. x ∷ ds) one ∙ ap (λ rest. e ∷ rest) (told_once xs asks ss ds es h.1 k.1)

-- load and close answer one thing
closed_once : (places : ℕ) (ms : List Member) (o p : Result Disturbance Refusal) → LoadsAndCloses places ms o → LoadsAndCloses places ms p → o ≡ p
closed_once places ms o p = by (load_edit places [] ms).answer
  where
    by : (r : Result ℕ Refusal) → MatchResult r (λ count. Closes (taken places ms) o) (λ why. o ≡ Err why) → MatchResult r (λ count. Closes (taken places ms) p) (λ why. p ≡ Err why) → o ≡ p
    by (Ok n) h k = closes_once (taken places ms) o p h k
    by (Err why) h k = h ∙ sym k

pub settled_once : (places : ℕ) (ms : List Member) (asks : Service → Asked) (o p : Result (List Delivery) Refusal) → Settles places ms asks o → Settles places ms asks p → o ≡ p
settled_once places ms asks (Ok ds) (Ok es) h k = ap Ok (told_once (taken places ms) asks services ds es h.1 k.1)
settled_once places ms asks (Ok ds) (Err f) ((d, h), more) k = let e = closed_once places ms (Ok d) (Err f) h k in absurd (cc)
settled_once places ms asks (Err f) (Ok ds) h ((d, k), more) = let e = closed_once places ms (Ok d) (Err f) k h in absurd (cc)
settled_once places ms asks (Err f) (Err g) h k = let e = closed_once places ms (Err f) (Err g) h k in cc

-- ---- samples laid over a table that they lie over already
over_twice : (xs t : List Sample) → over xs (over xs t) ≡ over xs t
over_twice xs t = ap (λ rest. xs ++ rest) (drop-append_seam xs (drop (length xs) t))

-- ---- the deliveries on a closed record
-- x is the answer to a delivery for the service s
pub record AnswersFor (xs : List Sample) (asks : Service → Asked) (s : Service) (x : Answer) : Type 0 where
  pub answer : Result Report Refusal
  pub is : x ≡ told (reported answer)
  pub delivered : Delivered xs (asks s) answer

module _ (places : ℕ) (xs : List Sample) (asks : Service → Asked) (table : List Sample) (fixed : over xs table ≡ table) where
  next_runs : (next : Accepted) (cs : List Meaning) (answers : List Answer) (left : List Sample) (b : Accepted) → samples_of b ≡ xs → next ≡ b → Runs places next (over (samples_of next) table) cs answers left → Runs places b table cs answers left
  next_runs next cs answers left b same e r =
      let here : Runs places b (over (samples_of b) table) cs answers left = subst (λ (a : Accepted). Runs places a (over (samples_of a) table) cs answers left) e r in
      subst (λ (ys : List Sample). Runs places b ys cs answers left) (ap (λ (ys : List Sample). over ys table) same ∙ fixed) here

  delivery : (s : Service) (o : Outcome) (next : Accepted) (x : Answer) → Step places (closed xs) (of_closed (call.deliver (asks s))) o next → x ≡ told o → AnswersFor xs asks s x × (next ≡ closed xs)
  delivery s o next x (deliver ys q r is) says = (record { answer = r; is = says; delivered = is }, refl)

  all_answered : (ss : List Service) (answers : List Answer) (left : List Sample) → Runs places (closed xs) table (map (λ s. of_closed (call.deliver (asks s))) ss) answers left → AllZip (AnswersFor xs asks) ss answers × (left ≡ table)
  all_answered [] [] left h = (tt, h)
  all_answered [] (x ∷ answers) left h = absurd h
  all_answered (s ∷ ss) [] left h = absurd h.0
  all_answered (s ∷ ss) (x ∷ answers) left (o, next, step, is, rest) =
      let one = delivery s o next x step is in
      let more = all_answered ss answers left (next_runs next (map (λ s. of_closed (call.deliver (asks s))) ss) answers left (closed xs) refl one.1 rest) in
      ((one.0, more.0), more.1)

-- ---- close, and what comes after it
-- the answers of close and of what comes after it: its refusal, or a disturbance and the deliveries
pub data Closing (xs : List Sample) (asks : Service → Asked) (answers : List Answer) : Type 0 where
  kept : (f : Refusal) (more : List Answer) → Closes xs (Err f) → answers ≡ Refused f ∷ more → Closing xs asks answers
  done : (d : Disturbance) (more : List Answer) → Closes xs (Ok d) → answers ≡ Closed d ∷ more → AllZip (AnswersFor xs asks) services more → Closing xs asks answers

module _ (places : ℕ) (xs : List Sample) (asks : Service → Asked) (table : List Sample) (fixed : over xs table ≡ table) where
  after_close : (o : Outcome) (next : Accepted) (x : Answer) (rest : List Answer) (left : List Sample) → Step places (opened xs) (of_open call.close) o next → x ≡ told o
      → Runs places next (over (samples_of next) table) (map (λ s. of_closed (call.deliver (asks s))) services) rest left → Closing xs asks (x ∷ rest) × (left ≡ table)
  after_close o next x rest left (close ys (Ok d) is) says r =
      let more = all_answered places xs asks table fixed services rest left (subst (λ (t : List Sample). Runs places (closed xs) t (map (λ s. of_closed (call.deliver (asks s))) services) rest left) fixed r) in
      (done d rest is (ap (λ y. y ∷ rest) says) more.0, more.1)
  after_close o next x [] left (close ys (Err f) is) says r = (kept f [] is (ap (λ y. y ∷ []) says), r.1 ∙ fixed)
  after_close o next x (y ∷ rest) left (close ys (Err f) is) says (p, then, step, told, r) = absurd (elim step [ ])

  closing : (answers : List Answer) (left : List Sample) → Runs places (opened xs) table (of_open call.close ∷ map (λ s. of_closed (call.deliver (asks s))) services) answers left → Closing xs asks answers × (left ≡ table)
  closing [] left h = absurd h.0
  closing (x ∷ rest) left (o, next, step, is, r) = after_close o next x rest left step is r

-- ---- all calls
module _ (places : ℕ) (ms : List Member) (asks : Service → Asked) where
  -- the answers in turn: that of load, and those of what comes after it
  pub record InTurn (answers : List Answer) : Type 0 where
    pub rest : List Answer
    pub are : answers ≡ told (counted (load_edit places [] ms).answer) ∷ rest
    pub closing : Closing (taken places ms) asks rest

  after_load : (o : Outcome) (next : Accepted) → Step places (opened []) (of_open (call.load ms)) o next → (o ≡ counted (load_edit places [] ms).answer) × (next ≡ opened (taken places ms))
  after_load o next (load xs ns) = (refl, refl)

  runs_in_turn : (t : List Sample) (answers : List Answer) (left : List Sample) → Runs places (opened []) t (in_turn ms asks) answers left → InTurn answers × (left ≡ over (taken places ms) t)
  runs_in_turn t [] left h = absurd h.0
  runs_in_turn t (x ∷ rest) left (o, next, step, is, r) =
      let xs = taken places ms in
      let calls = of_open call.close ∷ map (λ s. of_closed (call.deliver (asks s))) services in
      let e = after_load o next step in
      let after = closing places xs asks (over xs t) (over_twice xs t) rest left (subst (λ (a : Accepted). Runs places a (over (samples_of a) t) calls rest left) e.1 r) in
      (record { rest = rest; are = ap (λ y. y ∷ rest) (is ∙ ap told e.0); closing = after.0 }, after.1)

  -- with places behind the last answer
  closing_over : (xs : List Sample) (rest extra : List Answer) → (length rest ≡ 7 → extra ≡ []) → Closing xs asks rest → Closing xs asks (rest ++ extra)
  closing_over xs rest extra all (kept f more answer e) = kept f (more ++ extra) answer (ap (λ ys. ys ++ extra) e)
  closing_over xs rest extra all (done d more answer e told) =
      let n : length rest ≡ 7 = ap length e ∙ ap (λ k. suc k) (AllZip-long (AnswersFor xs asks) services more told) in
      done d more answer (ap (λ ys. rest ++ ys) (all n) ∙ append-nil rest ∙ e) told

  in_turn_over : (answers filled : List Answer) → length filled ≡ 8 → InTurn answers → InTurn (over answers filled)
  in_turn_over answers filled eight h =
      let extra = drop (length answers) filled in
      let none : length h.rest ≡ 7 → extra ≡ [] = λ n. drop_of_length-le filled (omega (arith, eight, n, ap length h.are)) in
      record { rest = h.rest ++ extra; are = ap (λ ys. ys ++ extra) h.are; closing = closing_over (taken places ms) h.rest extra none h.closing }

  pub in_turn_told : (t : List Sample) (calls : List Meaning) (filled told : List Answer) (r : Result ℕ NotOffered) (left : List Sample) → places ≡ length t → calls ≡ in_turn ms asks → length filled ≡ 8 → Ran t calls filled r left told → InTurn told × (left ≡ over (taken places ms) t)
  in_turn_told t calls filled told r left size are eight h =
      let n : take (length filled) calls ≡ in_turn ms asks = ap (λ k. take k calls) eight ∙ ap (take 8) are in
      let runs : Runs places (opened []) t (in_turn ms asks) h.answers left = subst (λ cs. Runs places (opened []) t cs h.answers left) n (subst (λ k. Runs k (opened []) t (take (length filled) calls) h.answers left) (sym size) h.runs) in
      let k = runs_in_turn t h.answers left runs in
      (subst InTurn (sym h.told) (in_turn_over h.answers filled eight k.0), k.1)

  -- ---- what the answers tell
  is_refused : (r : Result ℕ Refusal) (f : Refusal) → told (counted r) ≡ Refused f → r ≡ Err f
  is_refused (Ok n) f e = absurd (cc)
  is_refused (Err g) f e = let same : g ≡ f = cc in ap Err same

  is_counted : (r : Result ℕ Refusal) → ((f : Refusal) → told (counted r) ≡ Refused f → ⊥) → (n : ℕ) × (r ≡ Ok n)
  is_counted (Ok n) none = (n, refl)
  is_counted (Err g) none = absurd (none g refl)

  first_answer : (answers : List Answer) (h : InTurn answers) (y : Answer) → get_or answers 0 y ≡ told (counted (load_edit places [] ms).answer)
  first_answer answers h y = ap (λ ys. get_or ys 0 y) h.are

  -- load is refused
  pub load_refused : (answers : List Answer) → InTurn answers → (y : Answer) (f : Refusal) → get_or answers 0 y ≡ Refused f → LoadsAndCloses places ms (Err f)
  load_refused answers h y f e =
      let r = is_refused (load_edit places [] ms).answer f (sym (first_answer answers h y) ∙ e) in
      subst (λ r. MatchResult r (λ count. Closes (taken places ms) (Err f)) (λ why. ◌≡◌ {A = Result Disturbance Refusal} (Err f) (Err why))) (sym r) refl

  -- load is not refused
  loaded : (answers : List Answer) → InTurn answers → (y : Answer) → ((f : Refusal) → get_or answers 0 y ≡ Refused f → ⊥) → (o : Result Disturbance Refusal) → Closes (taken places ms) o → LoadsAndCloses places ms o
  loaded answers h y none o is =
      let n = is_counted (load_edit places [] ms).answer (λ f e. none f (first_answer answers h y ∙ e)) in
      subst (λ r. MatchResult r (λ count. Closes (taken places ms) o) (λ why. o ≡ Err why)) (sym n.1) is

  second_answer : (answers : List Answer) (h : InTurn answers) (x y : Answer) (more : List Answer) → h.rest ≡ x ∷ more → get_or answers 1 y ≡ x
  second_answer answers h x y more e = ap (λ ys. get_or ys 1 y) (h.are ∙ ap (λ ys. told (counted (load_edit places [] ms).answer) ∷ ys) e)

  -- close is refused
  pub close_refused : (answers : List Answer) → InTurn answers → (y z : Answer) (f : Refusal) → ((g : Refusal) → get_or answers 0 y ≡ Refused g → ⊥) → get_or answers 1 z ≡ Refused f → LoadsAndCloses places ms (Err f)
  close_refused answers h y z f none e = loaded answers h y none (Err f) (by h.closing)
    where
      by : Closing (taken places ms) asks h.rest → Closes (taken places ms) (Err f)
      by (kept g more answer is) = let same : Refused g ≡ Refused f = sym (second_answer answers h (Refused g) z more is) ∙ e in let one : g ≡ f = cc in (answer.0, sym one ∙ answer.1)
      by (done d more answer is told) = let same : Closed d ≡ Refused f = sym (second_answer answers h (Closed d) z more is) ∙ e in absurd (cc)

  -- neither is refused: a disturbance, and an answer for every service
  pub record Done (answers : List Answer) : Type 0 where
    pub disturbance : Disturbance
    pub closed : LoadsAndCloses places ms (Ok disturbance)
    pub told : AllZip (AnswersFor (taken places ms) asks) services (take 6 (drop 2 answers))

  pub all_done : (answers : List Answer) → InTurn answers → (y z : Answer) → ((g : Refusal) → get_or answers 0 y ≡ Refused g → ⊥) → ((g : Refusal) → get_or answers 1 z ≡ Refused g → ⊥) → Done answers
  all_done answers h y z none no_more = by h.closing
    where
      by : Closing (taken places ms) asks h.rest → Done answers
      by (kept g more answer is) = absurd (no_more g (second_answer answers h (Refused g) z more is))
      by (done d more answer is each) =
          let six : length more ≡ 6 = AllZip-long (AnswersFor (taken places ms) asks) services more each in
          let all : answers ≡ told (counted (load_edit places [] ms).answer) ∷ Closed d ∷ more = h.are ∙ ap (λ ys. told (counted (load_edit places [] ms).answer) ∷ ys) is in
          let e : more ≡ take 6 (drop 2 answers) = sym (ap (λ ys. take 6 (drop 2 ys)) all ∙ ap (λ n. take n more) (sym six) ∙ take-length more) in
          record { disturbance = d; closed = loaded answers h y none (Ok d) answer; told = subst (AllZip (AnswersFor (taken places ms) asks) services) e each }

-- ---- the deliveries that are told
reported_delivery : (r : Result Report Refusal) → OfDelivery (told (reported r))
reported_delivery (Ok report) = tt
reported_delivery (Err f) = tt

pub each_delivery : (xs : List Sample) (asks : Service → Asked) (ss : List Service) (answers : List Answer) → AllZip (AnswersFor xs asks) ss answers → All OfDelivery answers
each_delivery xs asks [] [] h = λ k d lt. absurd (omega arith)
each_delivery xs asks [] (y ∷ ys) h = absurd h
each_delivery xs asks (s ∷ ss) [] h = absurd h
each_delivery xs asks (s ∷ ss) (y ∷ ys) h = All-cons OfDelivery y ys (subst OfDelivery (sym h.0.is) (reported_delivery h.0.answer)) (each_delivery xs asks ss ys h.1)

same_report : (r q : Result Report Refusal) → told (reported r) ≡ told (reported q) → r ≡ q
same_report (Ok r) (Ok q) e = cc
same_report (Ok r) (Err g) e = absurd (cc)
same_report (Err f) (Ok q) e = absurd (cc)
same_report (Err f) (Err g) e = cc

all_told : (xs : List Sample) (asks : Service → Asked) (ss : List Service) (answers : List Answer) (ds : List Delivery) → AllZip (AnswersFor xs asks) ss answers → map (λ d. d.service) ds ≡ ss → map (λ d. told (reported d.answer)) ds ≡ answers → AllZip (Tells xs asks) ss ds
all_told xs asks [] ys [] h e r = tt
all_told xs asks [] [] (d ∷ ds) h e r = absurd (cc)
all_told xs asks [] (y ∷ ys) (d ∷ ds) h e r = absurd h
all_told xs asks (s ∷ ss) [] ds h e r = absurd h
all_told xs asks (s ∷ ss) (y ∷ ys) [] h e r = absurd (cc)
all_told xs asks (s ∷ ss) (y ∷ ys) (d ∷ ds) h e r =
    let same : d.service ≡ s = cc in
    let more : map (λ x. x.service) ds ≡ ss = cc in
    let first : told (reported d.answer) ≡ y = cc in
    let others : map (λ x. told (reported x.answer)) ds ≡ ys = cc in
    let is : h.0.answer ≡ d.answer = same_report h.0.answer d.answer (sym h.0.is ∙ sym first) in
    (record { service = same; answer = subst (Delivered xs (asks s)) is h.0.delivered }, all_told xs asks ss ys ds h.1 more others)

pub settled : (places : ℕ) (ms : List Member) (asks : Service → Asked) (answers : List Answer) → Done places ms asks answers → (ds : List Delivery) → map (λ d. d.service) ds ≡ services → map (λ d. told (reported d.answer)) ds ≡ take 6 (drop 2 answers) → Settles places ms asks (Ok ds)
settled places ms asks answers k ds e r = ((k.disturbance, k.closed), all_told (taken places ms) asks services (take 6 (drop 2 answers)) ds k.told e r)

-- a list of six by its places
pub six_places : {X : Type 0} (xs : List X) (a b c d e f : X) → length xs ≡ 6 → get_or xs 0 a ∷ get_or xs 1 b ∷ get_or xs 2 c ∷ get_or xs 3 d ∷ get_or xs 4 e ∷ get_or xs 5 f ∷ [] ≡ xs
six_places (u ∷ v ∷ w ∷ x ∷ y ∷ z ∷ []) a b c d e f six = refl
six_places [] a b c d e f six = absurd (omega arith)
six_places (u ∷ []) a b c d e f six = absurd (omega arith)
six_places (u ∷ v ∷ []) a b c d e f six = absurd (omega arith)
six_places (u ∷ v ∷ w ∷ []) a b c d e f six = absurd (omega arith)
six_places (u ∷ v ∷ w ∷ x ∷ []) a b c d e f six = absurd (omega arith)
six_places (u ∷ v ∷ w ∷ x ∷ y ∷ []) a b c d e f six = absurd (omega arith)
six_places (u ∷ v ∷ w ∷ x ∷ y ∷ z ∷ more ∷ rest) a b c d e f six = absurd (omega arith)
