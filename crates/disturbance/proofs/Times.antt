-- Times of a sound trace rise from place to place.
use Rattle.std.proofs.Common.{◌≡◌, ℕ, zero, suc, ◌+◌, ◌-◌, ◌<◌, ◌≤◌, List, length, ap, inl, inr, arith}
use Rattle.std.proofs.lemmas.Bool.{cases_lt}
use Rattle.recording.specs.declared.sample.Sample.{Sample}
use Rattle.disturbance.specs.Trace.{at, Sound}

-- one place more
pub rising_more : (xs : List Sample) (k : ℕ) → ((j : ℕ) → j + 1 < k → (at xs j).time < (at xs (j + 1)).time) → (0 < k → (at xs (k - 1)).time < (at xs k).time) → (j : ℕ) → j + 1 < k + 1 → (at xs j).time < (at xs (j + 1)).time
rising_more xs k below here j lt =
    elim (cases_lt (j + 1) k) [
      | inl less ↦ below j less
      | inr more ↦
          let last : j + 1 ≡ k = omega arith in
          let before : j ≡ k - 1 = omega arith in
          omega (arith, here (omega arith), ap (λ n. (at xs n).time) last, ap (λ n. (at xs n).time) before)
    ]

module _ (xs : List Sample) (s : Sound xs) where
  pub next_time : (k : ℕ) → 1 ≤ k → k < length xs → (at xs (k - 1)).time < (at xs k).time
  next_time k one lt = let e : k - 1 + 1 ≡ k = omega arith in omega (arith, s.0 (k - 1) (omega arith), ap (λ n. (at xs n).time) e)

  time_by : (j d : ℕ) → j + d < length xs → (at xs j).time ≤ (at xs (j + d)).time
  time_by j zero lt = let e : j + 0 ≡ j = omega arith in omega (arith, ap (λ n. (at xs n).time) e)
  time_by j (suc d) lt =
      let e : j + suc d ≡ j + d + 1 = omega arith in
      omega (arith, time_by j d (omega arith), s.0 (j + d) (omega arith), ap (λ n. (at xs n).time) e)

  pub time_up : (j k : ℕ) → j ≤ k → k < length xs → (at xs j).time ≤ (at xs k).time
  time_up j k le lt =
      let e : j + (k - j) ≡ k = omega arith in
      omega (arith, time_by j (k - j) (omega arith), ap (λ n. (at xs n).time) e)
