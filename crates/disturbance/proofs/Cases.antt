-- The worked cases, by computing with the numbers.
use Rattle.std.proofs.Common.{◌≡◌, ℕ, zero, suc, ◌+◌, ◌-◌, ◌<◌, ◌≤◌, Some, refl, subst, arith, rules}
use Rattle.std.proofs.lemmas.Int.{ints}
use Rattle.exact.specs.First.{First}
use Rattle.disturbance.specs.declared.direction.Direction.TheVariants.{Low}
use Rattle.disturbance.specs.Trace.{at, Within, Sound}
use Rattle.disturbance.specs.Direction.{dip}
use Rattle.disturbance.specs.Line.{Under, AtLeast}
use Rattle.disturbance.specs.Disturbance.{Disturbed, Undisturbed, Answers, disturbance_from, disturbance_of}
use Rattle.disturbance.specs.Recovery.{recovery_dip, Recovered}
use Rattle.disturbance.specs.Trigger.{Triggered}
use Rattle.disturbance.specs.Worked.{just_outside, across, record_a, disturbance_a, WorkedCases}
use Rattle.disturbance.proofs.Heights.{under_sum, sum_under, least_sum, sum_least}
use Rattle.disturbance.proofs.Found.{worked_out}

-- ---- sound records
rising_outside : (k : ℕ) → k + 1 < 2 → (at just_outside k).time < (at just_outside (k + 1)).time
rising_outside zero h = omega arith
rising_outside (suc k) h = absurd (omega arith)

within_outside : (k : ℕ) → k < 2 → Within (at just_outside k)
within_outside zero h = search rules
within_outside (suc zero) h = search rules
within_outside (suc (suc k)) h = absurd (omega arith)

rising_a : (k : ℕ) → k + 1 < 4 → (at record_a k).time < (at record_a (k + 1)).time
rising_a zero h = omega arith
rising_a (suc zero) h = omega arith
rising_a (suc (suc zero)) h = omega arith
rising_a (suc (suc (suc k))) h = absurd (omega arith)

within_a : (k : ℕ) → k < 4 → Within (at record_a k)
within_a zero h = search rules
within_a (suc zero) h = search rules
within_a (suc (suc zero)) h = search rules
within_a (suc (suc (suc zero))) h = search rules
within_a (suc (suc (suc (suc k)))) h = absurd (omega arith)

sound_a : Sound record_a
sound_a = (rising_a, within_a)

-- ---- the disturbance is the one worked out
answer_outside : disturbance_of just_outside ≡ Some (record { time = 101; direction = Low })
unfolding disturbance_of disturbance_from
answer_outside = refl

answer_a : disturbance_of record_a ≡ Some disturbance_a
unfolding disturbance_of disturbance_from
answer_a = refl

outside_case : Disturbed just_outside (record { time = 101; direction = Low })
outside_case = subst (λ o. Answers just_outside o) answer_outside (worked_out just_outside (rising_outside, within_outside))

disturbance_case : Disturbed record_a disturbance_a
disturbance_case = subst (λ o. Answers record_a o) answer_a (worked_out record_a sound_a)

none_case : Undisturbed across
none_case zero l = omega (arith, l.later)
none_case (suc zero) l = omega (arith, l.inside.0)
none_case (suc (suc k)) l = omega (arith, l.there)

-- ---- no recovery and no trigger before, from one sample to the next
not_yet_a : (k u : ℕ) → 1 ≤ k → k < 4 → u < 20076 → 20001 < u → (at record_a (k - 1)).time < u → u ≤ (at record_a k).time → Under (dip Low) recovery_dip (at record_a (k - 1)) (at record_a k) u → ⊥
not_yet_a zero u one four less more after until h = omega arith
not_yet_a (suc zero) u one four less more after until h = omega arith
not_yet_a (suc (suc zero)) u one four less more after until h = omega (arith, ints, under_sum (dip Low) recovery_dip (at record_a 1) (at record_a 2) u (record { after = after; until = until; first = omega arith; second = omega arith }) h)
not_yet_a (suc (suc (suc zero))) u one four less more after until h = omega (arith, ints, under_sum (dip Low) recovery_dip (at record_a 2) (at record_a 3) u (record { after = after; until = until; first = omega arith; second = omega arith }) h)
not_yet_a (suc (suc (suc (suc k)))) u one four less more after until h = omega arith

recovery_case : First (Recovered record_a disturbance_a) 20076
recovery_case = record {
  holds = (omega arith, record { place = 3; later = omega arith; there = omega arith; after = omega arith; until = omega arith; holds = sum_under (dip Low) recovery_dip (at record_a 2) (at record_a 3) 20076 (record { after = omega arith; until = omega arith; first = omega arith; second = omega arith }) (omega (arith, ints)) });
  earlier = λ u less h. not_yet_a h.1.place u h.1.later h.1.there less h.0 h.1.after h.1.until h.1.holds;
}

not_triggered_a : (k u : ℕ) → 1 ≤ k → k < 4 → u < 20025 → 20001 ≤ u → (at record_a (k - 1)).time < u → u ≤ (at record_a k).time → AtLeast (dip Low) 200 (at record_a (k - 1)) (at record_a k) u → ⊥
not_triggered_a zero u one four less more after until h = omega arith
not_triggered_a (suc zero) u one four less more after until h = omega arith
not_triggered_a (suc (suc zero)) u one four less more after until h = omega (arith, ints, least_sum (dip Low) 200 (at record_a 1) (at record_a 2) u (record { after = after; until = until; first = omega arith; second = omega arith }) h)
not_triggered_a (suc (suc (suc zero))) u one four less more after until h = omega arith
not_triggered_a (suc (suc (suc (suc k)))) u one four less more after until h = omega arith

trigger_case : First (Triggered record_a disturbance_a (Some 20076) 200) 20025
trigger_case = record {
  holds = (omega arith, omega arith, record { place = 2; later = omega arith; there = omega arith; after = omega arith; until = omega arith; holds = sum_least (dip Low) 200 (at record_a 1) (at record_a 2) 20025 (record { after = omega arith; until = omega arith; first = omega arith; second = omega arith }) (omega (arith, ints)) });
  earlier = λ u less h. not_triggered_a h.2.place u h.2.later h.2.there less h.0 h.2.after h.2.until h.2.holds;
}

pub worked : WorkedCases
worked = record { outside = outside_case; none = none_case; sound = sound_a; disturbance = disturbance_case; recovery = recovery_case; trigger = trigger_case }
