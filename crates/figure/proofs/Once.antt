-- There is one answer to what is asked, and one exact delivery.
use Rattle.std.proofs.Common.{◌≡◌, ℕ, List, ℤ, Some, None, Option, option_map, Result, sym, refl, ap, ◌∙◌, subst, arith}
use borrow.Author.Differences.{ints}
use Rattle.exact.specs.Fractions.{whole}
use Rattle.exact.proofs.First.{answer_unique}
use Rattle.exact.proofs.Wholes.{whole_in}
use Rattle.recording.specs.declared.refusal.Refusal.{Refusal}
use Rattle.recording.specs.declared.sample.Sample.{Sample}
use Rattle.timeline.proofs.Checks.{first_fault_once}
use Rattle.timeline.specs.Checks.{FirstFault}
use Rattle.disturbance.specs.declared.disturbance.Disturbance.{Disturbance}
use Rattle.disturbance.specs.Recovery.{Recovered}
use Rattle.disturbance.specs.Trigger.{Triggered}
use Rattle.response.specs.declared.setup.Trigger.{Trigger}
use Rattle.figure.specs.declared.report.Report.{Report}
use Rattle.figure.specs.declared.report.Verdict.{Verdict}
use Rattle.figure.specs.declared.report.Verdict.TheVariants.{Met, Level, Short}
use Rattle.figure.specs.Steps.{unrounded, delivery}
use Rattle.figure.specs.Asked.{Asked, TriggerTime, Times, shift_in, case_of}
use Rattle.figure.specs.Defects.{defects}
use Rattle.figure.specs.Reports.{Judged, Reports, AnswerIs}
use Rattle.figure.specs.Laws.{OneAnswer, OneExactDelivery}

-- ---- the times
trigger_once : (xs : List Sample) (d : Disturbance) (recovery : Option ℕ) (g : Option Trigger) (S S' : Option ℕ) → TriggerTime xs d recovery g S → TriggerTime xs d recovery g S' → S ≡ S'
trigger_once xs d recovery None S S' h k = cc
trigger_once xs d recovery (Some g) S S' h k = answer_unique (Triggered xs d recovery g.dip) S S' h k

module _ (xs : List Sample) (d : Disturbance) (a : Asked) where
  pub recovery_once : (recovery recovery' S S' : Option ℕ) → Times xs d a recovery S → Times xs d a recovery' S' → recovery ≡ recovery'
  recovery_once recovery recovery' S S' h k = answer_unique (Recovered xs d) recovery recovery' h.recovers k.recovers

  pub trigger_time_once : (recovery recovery' S S' : Option ℕ) → Times xs d a recovery S → Times xs d a recovery' S' → S ≡ S'
  trigger_time_once recovery recovery' S S' h k =
      trigger_once xs d recovery' a.trigger S S'
      (subst (λ (o : Option ℕ). TriggerTime xs d o a.trigger S) (recovery_once recovery recovery' S S' h k) h.triggers) k.triggers

-- ---- the report
option_map_whole_in : (o p : Option ℤ) → option_map whole o ≡ option_map whole p → o ≡ p
option_map_whole_in None None e = refl
option_map_whole_in None (Some y) e = cc
option_map_whole_in (Some x) None e = cc
option_map_whole_in (Some x) (Some y) e = let f : whole x ≡ whole y = cc in ap Some (whole_in f)

pub judged_once : (watts amount : ℤ) (v w : Verdict) → Judged watts amount v → Judged watts amount w → v ≡ w
judged_once watts amount Met Met h k = refl
judged_once watts amount Met Level h k = absurd (omega (arith, ints, h))
judged_once watts amount Met Short h k = absurd (omega (arith, ints, h, k))
judged_once watts amount Level Met h k = absurd (omega (arith, ints, k))
judged_once watts amount Level Level h k = refl
judged_once watts amount Level Short h k = absurd (omega (arith, ints, k))
judged_once watts amount Short Met h k = absurd (omega (arith, ints, h, k))
judged_once watts amount Short Level h k = absurd (omega (arith, ints, h))
judged_once watts amount Short Short h k = refl

-- a report by its fields
abbrev made : ℕ → Option ℕ → ℤ → Option ℤ → ℤ → Verdict → Report
made T recovery first second watts verdict = record { disturbance = T; recovery = recovery; first = first; second = second; delivery = watts; verdict = verdict }

same_report : (p q : Report) → p.disturbance ≡ q.disturbance → p.recovery ≡ q.recovery → p.first ≡ q.first → p.second ≡ q.second → p.delivery ≡ q.delivery → p.verdict ≡ q.verdict → p ≡ q
same_report p q time recovery first second watts verdict =
    let e : made p.disturbance p.recovery p.first p.second p.delivery p.verdict ≡ made q.disturbance q.recovery q.first q.second q.delivery q.verdict = cc in
    e

pub reports_once : (xs : List Sample) (d : Disturbance) (a : Asked) (recovery : Option ℕ) (shift : ℤ) (p q : Report) → Reports xs d a recovery shift p → Reports xs d a recovery shift q → p ≡ q
reports_once xs d a recovery shift p q h k =
    let watts = whole_in (h.watts ∙ sym k.watts) in
    same_report p q (h.time ∙ sym k.time) (h.recovery ∙ sym k.recovery) (whole_in (h.first ∙ sym k.first)) (option_map_whole_in p.second q.second (h.second ∙ sym k.second)) watts
    (judged_once p.delivery a.amount p.verdict q.verdict h.verdict (subst (λ (z : ℤ). Judged z a.amount q.verdict) (sym watts) k.verdict))

-- ---- the answer
answer_once : (xs : List Sample) (d : Disturbance) (a : Asked) (recovery S : Option ℕ) (defect : Option Refusal) (r s : Result Report Refusal) → AnswerIs xs d a recovery S defect r → AnswerIs xs d a recovery S defect s → r ≡ s
answer_once xs d a recovery S (Some f) r s h k = cc
answer_once xs d a recovery S None r s (z, p, shifted, is, reports) (z', p', shifted', is', reports') =
    let same : z' ≡ z = cc in
    let e = reports_once xs d a recovery z p p' reports (subst (λ (n : ℤ). Reports xs d a recovery n p') same reports') in
    cc

pub one_answer : OneAnswer
one_answer xs d a r s h k =
    let recovers = recovery_once xs d a k.recovery h.recovery k.trigger_time h.trigger_time k.times h.times in
    let triggers = trigger_time_once xs d a k.recovery h.recovery k.trigger_time h.trigger_time k.times h.times in
    let first = subst (λ (o : Option ℕ). FirstFault (defects xs d a o h.trigger_time) k.defect) recovers (subst (λ (S : Option ℕ). FirstFault (defects xs d a k.recovery S) k.defect) triggers k.first) in
    let same = first_fault_once (defects xs d a h.recovery h.trigger_time) h.defect k.defect h.first first in
    answer_once xs d a h.recovery h.trigger_time h.defect r s h.answer
    (subst (λ (o : Option ℕ). AnswerIs xs d a o h.trigger_time h.defect s) recovers
    (subst (λ (S : Option ℕ). AnswerIs xs d a k.recovery S h.defect s) triggers (subst (λ (o : Option Refusal). AnswerIs xs d a k.recovery k.trigger_time o s) same k.answer)))

pub one_exact_delivery : OneExactDelivery
one_exact_delivery xs d a x y h k =
    let recovers = recovery_once xs d a h.recovery k.recovery h.trigger_time k.trigger_time h.times k.times in
    let triggers = trigger_time_once xs d a h.recovery k.recovery h.trigger_time k.trigger_time h.times k.times in
    let same : Some h.shift ≡ Some k.shift = sym h.shifted ∙ ap (λ (S : Option ℕ). shift_in d a S) triggers ∙ k.shifted in
    let shift : h.shift ≡ k.shift = cc in
    h.is ∙ ap (λ (o : Option ℕ). delivery unrounded (case_of xs d a o h.shift)) recovers ∙ ap (λ (z : ℤ). delivery unrounded (case_of xs d a k.recovery z)) shift ∙ sym k.is
