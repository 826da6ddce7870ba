-- The straight line by natural numbers: each end counts by the time to the other.
use Rattle.std.proofs.Common.{◌≡◌, ℕ, ◌+◌, ◌-◌, ◌*◌, ◌<◌, ◌≤◌, max, ℤ, pos, ◌+ℤ◌, ◌*ℤ◌, ◌≤ℤ◌, ◌<ℤ◌, ap, arith}
use borrow.Author.Differences.{up, down, ints}
use Rattle.exact.specs.Fractions.{Fraction, whole, ◌≼◌, ◌≺◌}
use Rattle.exact.specs.Lines.{straight, ThroughEnds}
use Rattle.exact.proofs.Naturals.{Reads, reads_whole, reads-⊕, reads-⊖, reads-·, reads-÷, ≼-out, ≼-in, ≺-in}

pub ≺-out : {x y : Fraction} {g l b g' l' b' : ℕ} → Reads x g l b → Reads y g' l' b' → x ≺ y → g * b' + l' * b < g' * b + l * b'
≺-out {x} {y} h h' k = rw (← h.bottom_is, ← h'.bottom_is) (omega (arith, ints, k.lt, ap (λ (n : ℕ). n * y.bottom) h.top_is, ap (λ (n : ℕ). n * x.bottom) h'.top_is))

reads_line : (v w : ℤ) (t s u : ℕ) → Reads (straight t (whole v) s (whole w) u)
    (up v * (1 * 1 * max 1 (s - t)) + (up w * 1 + down v * 1) * (u - t) * 1) (down v * (1 * 1 * max 1 (s - t)) + (down w * 1 + up v * 1) * (u - t) * 1) (1 * (1 * 1 * max 1 (s - t)))
reads_line v w t s u = reads-⊕ (reads_whole v) (reads-÷ (s - t) (reads-· (u - t) (reads-⊖ (reads_whole w) (reads_whole v))))

module _ (v w : ℤ) (t s u level : ℕ) (lt : t < s) (after : t ≤ u) (until : u ≤ s) where
  -- by the times to the end and from the start
  pub reads_ends : Reads (straight t (whole v) s (whole w) u) (up v * (s - u) + up w * (u - t)) (down v * (s - u) + down w * (u - t)) (s - t)
  reads_ends =
      let h = reads_line v w t s u in
      let m : max 1 (s - t) ≡ s - t = omega arith in
      let e : s - t ≡ (s - u) + (u - t) = omega arith in
      let top = rw m at h.top_is in
      record { top_is = omega (arith, top, ap (λ k. up v * k) e, ap (λ k. down v * k) e); bottom_is = omega (arith, h.bottom_is) }

  pub under_in : (v *ℤ pos (s - u) +ℤ w *ℤ pos (u - t)) <ℤ pos (level * (s - t)) → straight t (whole v) s (whole w) u ≺ whole (pos level)
  under_in h = ≺-in reads_ends (reads_whole (pos level)) (omega (arith, ints))

  pub under_out : straight t (whole v) s (whole w) u ≺ whole (pos level) → (v *ℤ pos (s - u) +ℤ w *ℤ pos (u - t)) <ℤ pos (level * (s - t))
  under_out h = omega (arith, ints, ≺-out reads_ends (reads_whole (pos level)) h)

  pub least_in : pos (level * (s - t)) ≤ℤ (v *ℤ pos (s - u) +ℤ w *ℤ pos (u - t)) → whole (pos level) ≼ straight t (whole v) s (whole w) u
  least_in h = ≼-in (reads_whole (pos level)) reads_ends (omega (arith, ints))

  pub least_out : whole (pos level) ≼ straight t (whole v) s (whole w) u → pos (level * (s - t)) ≤ℤ (v *ℤ pos (s - u) +ℤ w *ℤ pos (u - t))
  least_out h = omega (arith, ints, ≼-out (reads_whole (pos level)) reads_ends h)

  pub over_in : pos (level * (s - t)) <ℤ (v *ℤ pos (s - u) +ℤ w *ℤ pos (u - t)) → whole (pos level) ≺ straight t (whole v) s (whole w) u
  over_in h = ≺-in (reads_whole (pos level)) reads_ends (omega (arith, ints))

  pub over_out : whole (pos level) ≺ straight t (whole v) s (whole w) u → pos (level * (s - t)) <ℤ (v *ℤ pos (s - u) +ℤ w *ℤ pos (u - t))
  over_out h = omega (arith, ints, ≺-out (reads_whole (pos level)) reads_ends h)

at_start : (t s : ℕ) (v w : ℤ) → t < s → Reads (straight t (whole v) s (whole w) t) (up v * (s - t)) (down v * (s - t)) (s - t)
at_start t s v w lt =
    let h = reads_ends v w t s t 0 lt (omega arith) (omega arith) in
    let z : t - t ≡ 0 = omega arith in
    record { top_is = omega (arith, h.top_is, ap (λ k. up w * k) z, ap (λ k. down w * k) z); bottom_is = h.bottom_is }

at_end : (t s : ℕ) (v w : ℤ) → t < s → Reads (straight t (whole v) s (whole w) s) (up w * (s - t)) (down w * (s - t)) (s - t)
at_end t s v w lt =
    let h = reads_ends v w t s s 0 lt (omega arith) (omega arith) in
    let z : s - s ≡ 0 = omega arith in
    record { top_is = omega (arith, h.top_is, ap (λ k. up v * k) z, ap (λ k. down v * k) z); bottom_is = h.bottom_is }

pub through_ends : ThroughEnds
through_ends = record {
  start = λ t s v w lt. (≼-in (at_start t s v w lt) (reads_whole v) (omega arith), ≼-in (reads_whole v) (at_start t s v w lt) (omega arith));
  end = λ t s v w lt. (≼-in (at_end t s v w lt) (reads_whole w) (omega arith), ≼-in (reads_whole w) (at_end t s v w lt) (omega arith));
}
