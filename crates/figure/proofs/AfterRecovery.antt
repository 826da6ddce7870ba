-- No report and no refusal changes with the powers at or after recovery: times and frequencies stay, and with them recovery, trigger time and
-- defects; the powers before recovery stay, and with them the values.
use Rattle.std.proofs.Common.{◌≡◌, ℕ, ◌+◌, ◌≤◌, leb, Bool, true, false, cond, List, [], ◌∷◌, ℤ, Some, None, filter, Option, option_map, Result, refl, ap, ◌∙◌, subst, arith}
use Rattle.std.specs.List.{AllZip}
use Rattle.std.proofs.Math.Path.{fun_ext}
use Rattle.std.proofs.lemmas.Bool.{ltb-true, leb-true, and_parts}
use Rattle.exact.specs.First.{FirstOrNone}
use Rattle.exact.proofs.First.{answer_unique}
use Rattle.recording.specs.declared.refusal.Refusal.{Refusal}
use Rattle.recording.specs.declared.sample.Sample.{Sample}
use Rattle.disturbance.specs.declared.direction.Direction.{Direction}
use Rattle.disturbance.specs.declared.disturbance.Disturbance.{Disturbance}
use Rattle.disturbance.specs.Recovery.{Recovered}
use Rattle.disturbance.specs.Trigger.{Before}
use Rattle.response.specs.declared.base.BaseWindow.{BaseWindow}
use Rattle.response.specs.declared.group.Window.{Window}
use Rattle.figure.specs.declared.point.Point.{Point}
use Rattle.figure.specs.declared.report.Report.{Report}
use Rattle.figure.specs.Points.{turned, course}
use Rattle.figure.specs.Steps.{to_half_up, is_base, is_used, value, lesser_of}
use Rattle.figure.specs.Asked.{Asked, points_of, case_of}
use Rattle.figure.specs.Reports.{Reports, AnswerIs}
use Rattle.figure.specs.Laws.{AlikeBefore, PowerAfterRecovery}
use Rattle.figure.proofs.Alike.{SameFrequencies, same_times, same_defects}
use Rattle.figure.proofs.Curves.{value_over}

frequencies : (R : Option ℕ) (xs ys : List Sample) → AllZip (AlikeBefore R) xs ys → SameFrequencies xs ys
frequencies R [] [] h = tt
frequencies R [] (y ∷ ys) h = absurd h
frequencies R (x ∷ xs) [] h = absurd h
frequencies R (x ∷ xs) (y ∷ ys) h = (record { time = h.0.time; frequency = h.0.frequency }, frequencies R xs ys h.1)

-- ---- points before recovery, which have the same power
same_turned : (R : Option ℕ) (d : Direction) (s t : Sample) → AlikeBefore R s t → Before R s.time → turned d s ≡ turned d t
same_turned R d s t h before = let e = h.power before in cc

same_if_kept : (b : Bool) (p q : Point) (ps qs : List Point) → (b ≡ true → p ≡ q) → ps ≡ qs → cond b (p ∷ ps) ps ≡ cond b (q ∷ qs) qs
same_if_kept true p q ps qs same rest = let e = same refl in cc
same_if_kept false p q ps qs same rest = rest

-- a test of times keeps the same points, if it keeps none from recovery on
same_kept : (R : Option ℕ) (d : Direction) (test : ℕ → Bool) → ((t : ℕ) → test t ≡ true → Before R t) → (xs ys : List Sample) → AllZip (AlikeBefore R) xs ys → filter (λ p. test p.time) (course d xs) ≡ filter (λ p. test p.time) (course d ys)
same_kept R d test before [] [] h = refl
same_kept R d test before [] (y ∷ ys) h = absurd h
same_kept R d test before (x ∷ xs) [] h = absurd h
same_kept R d test before (x ∷ xs) (y ∷ ys) h =
    let same : test x.time ≡ true → turned d x ≡ turned d y = λ e. same_turned R d x y h.0 (before x.time e) in
    rw (← ap test h.0.time) (same_if_kept (test x.time) (turned d x) (turned d y) _ _ same (same_kept R d test before xs ys h.1))

used_before : (R : Option ℕ) (t : ℕ) → is_used R t ≡ true → Before R t
used_before None t e = tt
used_before (Some recovery) t e = ltb-true t recovery e

-- recovery is after the disturbance time, and no base point is
base_before : (R : Option ℕ) (xs : List Sample) (d : Disturbance) (base : BaseWindow) → FirstOrNone (Recovered xs d) R → (t : ℕ) → is_base d.time base t ≡ true → Before R t
base_before None xs d base first t e = tt
base_before (Some recovery) xs d base first t e =
    let upto : t + base.end ≤ d.time = leb-true (t + base.end) d.time (and_parts (leb d.time (t + base.begin)) (leb (t + base.end) d.time) e).1 in
    omega (arith, first.holds.0)

-- ---- what is asked, at its recovery, and of samples alike
module _ (xs : List Sample) (d : Disturbance) (a : Asked) (R : Option ℕ) (first : FirstOrNone (Recovered xs d) R) (ys : List Sample) (h : AllZip (AlikeBefore R) xs ys) where
  same_value : (z : ℤ) (w : Window) → value to_half_up (case_of xs d a R z) w ≡ value to_half_up (case_of ys d a R z) w
  same_value z =
      let base = same_kept R d.direction (is_base d.time a.settings.base) (base_before R xs d a.settings.base first) xs ys h in
      value_over to_half_up (case_of xs d a R z) (points_of ys d) a.settings.base base (same_kept R d.direction (is_used R) (used_before R) xs ys h)

  same_reports : (z : ℤ) (report : Report) → Reports xs d a R z report → Reports ys d a R z report
  same_reports z report r =
      let c = case_of xs d a R z in
      let e : value to_half_up c ≡ value to_half_up (case_of ys d a R z) = fun_ext (same_value z) in
      record {
        time = r.time;
        recovery = r.recovery;
        first = r.first ∙ same_value z c.first;
        second = r.second ∙ ap (λ f. option_map f c.second) e;
        watts = r.watts ∙ ap (λ f. lesser_of (f c.first) (option_map f c.second)) e;
        verdict = r.verdict;
      }

  same_answer : (S : Option ℕ) (defect : Option Refusal) (r : Result Report Refusal) → AnswerIs xs d a R S defect r → AnswerIs ys d a R S defect r
  same_answer S (Some f) r is = is
  same_answer S None r (z, report, shifted, is, reports) = (z, report, shifted, is, same_reports z report reports)

pub power_after_recovery : PowerAfterRecovery
power_after_recovery xs d a R first ys alike r given =
    let once = answer_unique (Recovered xs d) R given.recovery first given.times.recovers in
    let h = subst (λ o. AllZip (AlikeBefore o) xs ys) once alike in
    let same = frequencies given.recovery xs ys h in
    record {
      recovery = given.recovery;
      trigger_time = given.trigger_time;
      times = same_times xs d a given.recovery given.trigger_time ys same given.times;
      defect = given.defect;
      first = same_defects xs d a given.recovery given.trigger_time ys same given.defect given.first;
      answer = same_answer xs d a given.recovery given.times.recovers ys h given.trigger_time given.defect r given.answer;
    }
