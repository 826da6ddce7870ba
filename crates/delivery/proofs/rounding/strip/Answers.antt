-- The area of a strip fits.
use Rattle.std.proofs.Common.{◌^◌, ◌<◌, pos, ◌+ℤ◌, ◌*ℤ◌, arith, SFits}
use mir.Syntax.{w128}
use Rattle.std.proofs.lemmas.Int.{to_z-of_z, to_z_pos}
use Rattle.exact.proofs.Limits.{within-+, within-*, within_fits}
use Rattle.delivery.proofs.rounding.strip.Goals as goal

-- what fits
record Fit (c : goal.Start) : Type 0 where
  first : SFits w128 c.args.v
  second : SFits w128 c.args.w
  gap : c.args.gap < 2 ^ 127
  sum : SFits w128 (c.args.v +ℤ c.args.w)
  area : SFits w128 ((c.args.v +ℤ c.args.w) *ℤ pos c.args.gap)

fit : (c : goal.Start) → Fit c
fit c = let s = within-+ c.requires.0 c.requires.1 in
    record { first = c.ranges.v; second = c.ranges.w; gap = omega arith; sum = within_fits (omega arith) s; area = within_fits (omega arith) (within-* c.args.gap s) }

pub overflow_mul-result : goal.overflow_mul-result
overflow_mul-result c = let record { first = v; second = w; gap = g; sum = s; area = a } = fit c in simp (to_z-of_z, to_z_pos) a

pub returns : goal.returns
returns c = let record { first = v; second = w; gap = g; sum = s; area = a } = fit c in simp (to_z-of_z, to_z_pos)
