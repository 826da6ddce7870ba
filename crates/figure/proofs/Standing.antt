-- Where no defect applies, the windows stand on the clock of the record.
use Rattle.std.proofs.Common.{◌≡◌, ℕ, ◌+◌, ◌≤◌, Bool, true, false, cond, List, [], ◌∷◌, ℤ, pos, negsuc, ◌<ℤ◌, Some, None, Option, refl, inl, inr, arith}
use lib.Signed.{le_z}
use borrow.Author.Differences.{up, down, ints}
use Rattle.std.specs.List.{AllByRecursion}
use Rattle.std.proofs.lemmas.Bool.{cases_lt}
use Rattle.recording.specs.declared.refusal.Reason.TheVariants.{EmptyFirstWindow, WindowOutside}
use Rattle.recording.specs.declared.sample.Sample.{Sample}
use Rattle.response.specs.Groups.{Sound as SoundRow}
use Rattle.timeline.specs.Checks.{FirstFault}
use Rattle.disturbance.specs.declared.disturbance.Disturbance.{Disturbance}
use Rattle.figure.specs.declared.span.Span.{Span}
use Rattle.figure.specs.Windows.{Empty, on_clock, unless_empty, Proper}
use Rattle.figure.specs.Asked.{Asked, shift_in, first_span, second_span}
use Rattle.figure.specs.Defects.{Beyond, defects}
use Rattle.figure.proofs.Bound.{ProperOrNone}
use Rattle.figure.proofs.Reasons.{cleared}

-- ---- a window that stands: it starts before it ends, and both are times of the clock
pub record Stands (w : Span) : Type 0 where
  pub rises : w.start <ℤ w.end
  pub starts : pos (up w.start) ≡ w.start
  pub ends : pos (up w.end) ≡ w.end

-- every sample is later than a time before the clock begins
later : (z : ℤ) (xs : List Sample) → z <ℤ pos 0 → AllByRecursion (λ s. z <ℤ pos s.time) xs
later z [] less = tt
later z (s ∷ xs) less = (omega (arith, ints), later z xs less)

-- any other time is one of the clock
pub on_the_clock : (z : ℤ) → (z <ℤ pos 0 → ⊥) → pos (up z) ≡ z
on_the_clock (pos n) h = refl
on_the_clock (negsuc n) h = absurd (h (omega (arith, ints)))

pub stands : (xs : List Sample) (w : Span) → (Empty w → ⊥) → (Beyond xs w → ⊥) → Stands w
stands xs w full within =
    let rises : w.start <ℤ w.end = elim (cases_lt (up w.start + down w.end) (up w.end + down w.start)) [ inl less ↦ omega (arith, ints) | inr more ↦ absurd (full (omega (arith, ints))) ] in
    let starts = on_the_clock w.start (λ before. within (full, inl (later w.start xs before))) in
    record { rises = rises; starts = starts; ends = on_the_clock w.end (λ before. omega (arith, ints, before)) }

-- so it can be averaged, if it counts at most twice
pub stands_proper : (w : Span) → Stands w → w.multiplier ≤ 2 → Proper (on_clock w)
stands_proper w s times = record { rises = omega (arith, ints, s.rises, s.starts); times = times }

-- where it is not empty
proper_unless : (xs : List Sample) (w : Span) (b : Bool) → le_z w.end w.start ≡ b → (Beyond xs w → ⊥) → w.multiplier ≤ 2 → ProperOrNone (cond b None (Some (on_clock w)))
proper_unless xs w true e within times = tt
proper_unless xs w false e within times = stands_proper w (stands xs w (λ empty. omega (arith, ints, empty)) within) times

pub proper_or_none : (xs : List Sample) (w : Span) → (Beyond xs w → ⊥) → w.multiplier ≤ 2 → ProperOrNone (unless_empty w)
proper_or_none xs w within times = proper_unless xs w (le_z w.end w.start) refl within times

-- ---- the windows of what is asked, at a shift, where none of its defects applies
pub record Standing (xs : List Sample) (d : Disturbance) (a : Asked) (recovery : Option ℕ) (z : ℤ) : Type 0 where
  pub first : Stands (first_span d a recovery z)
  pub second : (Empty (second_span d a recovery z) → ⊥) → Stands (second_span d a recovery z)
  pub proper : Proper (on_clock (first_span d a recovery z))
  pub proper_second : ProperOrNone (unless_empty (second_span d a recovery z))

pub windows_stand : (xs : List Sample) (d : Disturbance) (a : Asked) (recovery S : Option ℕ) (z : ℤ) → SoundRow a.row → FirstFault (defects xs d a recovery S) None → shift_in d a S ≡ Some z → Standing xs d a recovery z
windows_stand xs d a recovery S z sound clear shifted =
    let none = cleared xs d a recovery S clear in
    let full : Empty (first_span d a recovery z) → ⊥ = λ empty. none EmptyFirstWindow (z, shifted, empty) in
    let within : Beyond xs (first_span d a recovery z) → ⊥ = λ beyond. none WindowOutside (z, shifted, inl beyond) in
    let within-second : Beyond xs (second_span d a recovery z) → ⊥ = λ beyond. none WindowOutside (z, shifted, inr beyond) in
    let first : Stands (first_span d a recovery z) = stands xs (first_span d a recovery z) full within in
    record {
      first = first;
      second = λ some. stands xs (second_span d a recovery z) some within-second;
      proper = stands_proper (first_span d a recovery z) first sound.first.times.1;
      proper_second = proper_or_none xs (second_span d a recovery z) within-second sound.second.times.1;
    }
