use Rattle.std.proofs.Common.{◌≡◌, ℕ, suc, zero, ◌+◌, ◌<◌, ◌≤◌, Bool, true, false, ◌&&◌, ltb, leb, List, length, ℤ, neg_ℤ, ◌≤ℤ◌, Decides, refl, sym, ◌∙◌, add-one, arith, rules}
use Rattle.std.specs.Prelude.{int_le}
use Rattle.std.specs.List.{IsAllAdjacentAnswer}
use borrow.Author.Differences.{ints, true_is_le}
use Rattle.std.proofs.lemmas.Bool.{le-leb, leb-true}
use Rattle.std.proofs.lemmas.Bool.Decides.{Decides-and, Decides-ltb, same_from_decides}
use Rattle.std.proofs.lemmas.List.Sorted.{answers_always}
use Rattle.recording.specs.Samples.{latest, least_frequency, greatest_frequency, greatest_power}
use Rattle.recording.specs.declared.sample.Sample.{Sample}
use Rattle.disturbance.specs.Trace.{at, Sound, Within}
use Rattle.disturbance.proofs.trace.is_sound.Goals as goal

-- ---- the tests that a sample is within its limits, and that it may come after another
decides_leb : (m n : ℕ) → Decides (leb m n) (m ≤ n)
decides_leb m n = (leb-true m n, le-leb m n)

decides_int_le : (a b : ℤ) → Decides (int_le a b) (a ≤ℤ b)
decides_int_le a b = (λ e. omega (arith, ints), λ h. sym (true_is_le a b (omega (arith, ints))))

abbrev within : Sample → Bool
within s = leb s.time latest && (leb least_frequency s.frequency && (leb s.frequency greatest_frequency && (int_le (neg_ℤ greatest_power) s.power && int_le s.power greatest_power)))

decides_within : (s : Sample) → Decides (within s) (Within s)
decides_within s =
    let power = Decides-and _ _ (decides_int_le (neg_ℤ greatest_power) s.power) (decides_int_le s.power greatest_power) in
    let d = Decides-and _ _ (decides_leb s.time latest) (Decides-and _ _ (decides_leb least_frequency s.frequency) (Decides-and _ _ (decides_leb s.frequency greatest_frequency) power)) in
    (λ e. let w = d.0 e in (w.0, w.1.0, w.1.1.0, w.1.1.1.0, w.1.1.1.1), λ w. d.1 (w.0, (w.1, (w.2, (w.3, w.4)))))

abbrev follows : Sample → Sample → Bool
follows before s = within s && ltb before.time s.time

decides_follows : (before s : Sample) → Decides (follows before s) (Within s × (before.time < s.time))
decides_follows before s = Decides-and _ _ (decides_within s) (Decides-ltb before.time s.time)

-- ---- what the pass tells
within_all : (xs : List Sample) → (0 < length xs → Within (at xs 0)) → ((k : ℕ) → k + 1 < length xs → Within (at xs (k + 1))) → (k : ℕ) → k < length xs → Within (at xs k)
within_all xs first each zero h = first h
within_all xs first each (suc k) h = rw add-one at (each k (omega arith))

sound_decided : (xs : List Sample) (r : Bool) → (0 < length xs → Within (at xs 0)) → IsAllAdjacentAnswer (λ x y b. b ≡ follows x y) xs r → Decides r (Sound xs)
sound_decided xs true first h =
    let each : (k : ℕ) → k + 1 < length xs → Within (at xs (k + 1)) × ((at xs k).time < (at xs (k + 1)).time) = λ k there. (decides_follows (at xs k) (at xs (k + 1))).0 (sym (h k _ there)) in
    (λ _. (λ k there. (each k there).1, within_all xs first (λ k there. (each k there).0)), λ _. refl)
sound_decided xs false first h =
    (λ e. cc, λ sound. h.2 _ ∙ (decides_follows (at xs h.0) (at xs (h.0 + 1))).1 (sound.1 (h.0 + 1) h.1, sound.0 h.0 h.1))

pub returns-then-is_none_or : goal.returns-then-is_none_or
returns-then-is_none_or c =
    record { true_exactly_where_the_samples_are_sound = sound_decided c.args.samples.now c.is_sorted_by.result (λ there. search rules) (c.is_sorted_by.ensures.cases follows (answers_always _ _ _ (λ f a r g h. same_from_decides _ _ (search rules) (decides_follows a.0.now a.1.0.now)))) }
