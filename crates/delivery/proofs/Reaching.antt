-- A window that begins before the first sample begins before every one; one that ends after the last ends after every one.
use Rattle.std.proofs.Common.{ℕ, ◌-◌, ◌<◌, ◌⊎◌, List, length, pos, ◌<ℤ◌, inl, inr, arith}
use borrow.Author.Differences.{ints}
use Rattle.recording.specs.declared.sample.Sample.{Sample}
use Rattle.disturbance.specs.Trace.{at, Sound}
use Rattle.figure.specs.declared.span.Span.{Span}
use Rattle.figure.specs.Windows.{Empty}
use Rattle.figure.specs.Defects.{Beyond}
use Rattle.delivery.proofs.Ends.{all_up, all_down, at_first, at_last}

abbrev pub nothing : Sample
nothing = record { time = 0; frequency = 0; power = pos 0 }

module _ (xs : List Sample) (sound : Sound xs) (w : Span) where
  pub before_first : (Empty w → ⊥) → w.start <ℤ pos (at xs 0).time → Beyond xs w
  before_first stands lt = (stands, inl (all_up (λ s. s.time) nothing xs sound.0 (λ (t : ℕ). w.start <ℤ pos t) (λ m n le h. omega (arith, ints)) lt))

  pub after_last : (Empty w → ⊥) → pos (at xs (length xs - 1)).time <ℤ w.end → Beyond xs w
  after_last stands lt = (stands, inr (all_down (λ s. s.time) nothing xs sound.0 (λ (t : ℕ). pos t <ℤ w.end) (λ m n le h. omega (arith, ints)) lt))

  pub beyond_ends : 0 < length xs → Beyond xs w → (w.start <ℤ pos (at xs 0).time) ⊎ (pos (at xs (length xs - 1)).time <ℤ w.end)
  beyond_ends some b = elim b.1 [
    | inl h ↦ inl (at_first (λ s. s.time) nothing xs sound.0 some (λ (t : ℕ). w.start <ℤ pos t) h)
    | inr h ↦ inr (at_last (λ s. s.time) nothing xs sound.0 some (λ (t : ℕ). pos t <ℤ w.end) h)
  ]
