-- What a sound trace gives: points within their limits and in order.
use Rattle.std.proofs.Common.{ℕ, ◌≤◌, List, arith}
use borrow.Author.Differences.{ints}
use Rattle.std.proofs.ByRecursion.{All-from_get_or, All-map, All-weaker}
use Rattle.exact.specs.Limits.{Within}
use Rattle.exact.proofs.Limits.{within_in}
use Rattle.recording.specs.declared.sample.Sample.{Sample}
use Rattle.disturbance.specs.declared.direction.Direction.{Direction}
use Rattle.disturbance.specs.declared.direction.Direction.TheVariants.{Low, High}
use Rattle.disturbance.specs.Direction.{dip}
use Rattle.disturbance.specs.Trace.{Within as Limits, Sound as SoundTrace}
use Rattle.figure.specs.Points.{turned, course}
use Rattle.figure.proofs.Rising.{rises_course}
use Rattle.delivery.specs.Limits.{Tame}
use Rattle.delivery.proofs.Basing.{turned_within}
use Rattle.delivery.proofs.Courses.{Usable}

-- ---- points
dip_within : (d : Direction) (f : ℕ) → 47000 ≤ f → f ≤ 52000 → Within 3000 (dip d f)
dip_within Low f h k = within_in (omega (arith, ints)) (omega (arith, ints))
dip_within High f h k = within_in (omega (arith, ints)) (omega (arith, ints))

tame : (d : Direction) (s : Sample) → Limits s → Tame (turned d s)
tame d s h = record { time_most = h.0; dip_within = dip_within d s.frequency h.1 h.2; push_within = turned_within d s.power (record { least = h.3; most = h.4 }) }

pub usable : (d : Direction) (xs : List Sample) → SoundTrace xs → Usable (course d xs)
usable d xs h = record { tame = All-map Tame (turned d) xs (All-weaker Limits _ (tame d) xs (All-from_get_or Limits xs _ h.1)); rises = rises_course d xs h }
