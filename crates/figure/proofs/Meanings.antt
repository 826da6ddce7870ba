-- What the definitions mean: the base window, the ramp, empty windows, and a level response.
use Rattle.std.proofs.Common.{◌≡◌, ℕ, ◌+◌, ◌-◌, ◌*◌, ◌<◌, leb, List, length, ℤ, Some, None, Option, refl, ap, ◌∙◌, mul-le-mul_left, arith}
use borrow.Author.Differences.{ints}
use Rattle.std.proofs.lemmas.Int.{clamps}
use Rattle.std.proofs.lemmas.Bool.{leb-true, le-leb}
use Rattle.std.proofs.lemmas.Bool.Decides.{Decides-and}
use Rattle.exact.specs.Fractions.{whole, ◌·◌, ◌÷◌}
use Rattle.exact.proofs.Near.{near-·, near-÷, near_equal, equal_near}
use Rattle.exact.proofs.Rounding.{half_up_value}
use Rattle.exact.proofs.Averages.{line_level, average_level}
use Rattle.exact.proofs.Wholes.{half_up_of_whole}
use Rattle.disturbance.proofs.Quotients.{rounded_steps}
use Rattle.response.specs.declared.group.Window.{Window}
use Rattle.figure.specs.declared.point.Point.{Point}
use Rattle.figure.specs.Points.{Rises}
use Rattle.figure.specs.Steps.{to_half_up, inside, window_end, value_of, used}
use Rattle.figure.specs.Windows.{ramp_start, ramp_time, placed, Empty}
use Rattle.figure.specs.Laws.{BaseIsSigned, RampIsFirst, RecoveredBy, EmptyByRecovery, LevelValue}
use Rattle.figure.proofs.Rising.{inside_climbs}
use Rattle.figure.proofs.Curves.{value_of_same, value_is}

pub base_is_signed : BaseIsSigned
base_is_signed T base t =
    Decides-and (leb T (t + base.begin)) (leb (t + base.end) T)
    ((λ yes. omega (arith, ints, leb-true _ _ yes)), (λ h. le-leb _ _ (omega (arith, ints, h))))
    ((λ yes. omega (arith, ints, leb-true _ _ yes)), (λ h. le-leb _ _ (omega (arith, ints, h))))

pub ramp_is_first : RampIsFirst
ramp_is_first rate g is =
    let amount = (g.dip - ramp_start) * 1000 in
    let made = rounded_steps amount rate (omega (arith, is.0)) (ramp_time rate g) refl in
    record {
      holds = omega (arith, made.enough);
      earlier = λ u less enough. omega (arith, enough, mul-le-mul_left rate less, made.least);
    }

-- ---- empty windows
empty_recovered : (T : ℕ) (shift : ℤ) (recovery : Option ℕ) (w : Window) → w.start < w.end → Empty (placed T shift recovery w) → RecoveredBy recovery (placed T shift recovery w).start
empty_recovered T shift None w less empty = omega (arith, ints, empty)
empty_recovered T shift (Some recovery) w less empty = omega (arith, ints, clamps, empty)

recovered_empty : (T : ℕ) (shift : ℤ) (recovery : Option ℕ) (w : Window) → RecoveredBy recovery (placed T shift recovery w).start → Empty (placed T shift recovery w)
recovered_empty T shift None w before = absurd before
recovered_empty T shift (Some recovery) w before = omega (arith, ints, clamps, before)

pub empty_by_recovery : EmptyByRecovery
empty_by_recovery = record { empty = empty_recovered; recovered = recovered_empty }

-- ---- a level response
module _ (z : ℤ) (used : List Point) (w : Window) where
  level_end : (t : ℕ) → 0 < length used → window_end to_half_up (λ _. whole z) used t ≡ whole z
  level_end t some =
      let level = line_level (whole z) (λ (p : Point). p.time) used t some in
      ap whole (half_up_value _ _ level.0 level.1 ∙ half_up_of_whole z)

  pub level_value_of_any_points : Rises used → 0 < length used → w.start < w.end → value_of to_half_up (λ _. whole z) used w ≡ to_half_up (whole z · w.multiplier ÷ 100)
  level_value_of_any_points rises some less =
      let start = level_end w.start some in
      let end = level_end w.end some in
      let between = inside w.start w.end used in
      let level = average_level (whole z) (λ (p : Point). p.time) w.start between w.end less (inside_climbs w.start w.end used rises (omega arith)) in
      let near = near_equal (near-÷ {n = 0} 100 (omega arith) (near-· w.multiplier (equal_near level))) in
      rw (start, end) (ap whole (half_up_value _ _ near.0 near.1))

pub level_value : LevelValue
level_value c z w rises some less level = value_is to_half_up c w ∙ value_of_same _ _ to_half_up (used c) w level ∙ level_value_of_any_points z (used c) w rises some less
