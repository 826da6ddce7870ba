use Rattle.std.proofs.Common.{ℕ, ◌+◌, ◌-◌, ◌*◌, ◌<◌, ◌≤◌, arith, rules}
use Rattle.disturbance.proofs.Quotients.{Steps, rounded_steps, Crosses, never_reached, crossing_climbs, crossing_base, crossing_within, crossing_first}
use Rattle.disturbance.proofs.crossing.Slope.first_reached.Goals as goal

pub returns-then-y-span : goal.returns-then-y-span
returns-then-y-span c = λ u. never_reached _ _ _ _ _ _ u c.requires.0 c.if-goal-here.false c.if-y-span.true

-- past the two tests, whatever has been computed since
crosses : {start x end y goal from : ℕ} → (start ≤ from) × (from ≤ end) → x * (end - from) + y * (from - start) < goal → goal ≤ y * (end - start) → Crosses start x end y goal from
crosses within under over = record { le = within.0; le' = within.1; under = under; over = over }

pub overflow_sub-need : goal.overflow_sub-need
overflow_sub-need c = crossing_base (crosses c.requires c.if-goal-here.false c.if-y-span.false)

pub overflow_sub-climb : goal.overflow_sub-climb
overflow_sub-climb c = omega (arith, crossing_climbs (crosses c.requires c.if-goal-here.false c.if-y-span.false))

pub div_ceil-requires : goal.div_ceil-requires
div_ceil-requires c = omega (arith, crossing_climbs (crosses c.requires c.if-goal-here.false c.if-y-span.false))

-- the same, once the quotient is known
crossed : (c : goal.After-div_ceil) → Crosses c.args.self.start c.args.self.x c.args.self.end c.args.self.y c.args.goal c.args.from
crossed c = crosses c.requires c.if-goal-here.false c.if-y-span.false

made : (c : goal.After-div_ceil) → Steps (c.args.goal - c.args.self.x * (c.args.self.end - c.args.self.start)) (c.args.self.y - c.args.self.x) c.div_ceil.result
made c = rounded_steps _ _ (omega (arith, crossing_climbs (crossed c))) _ (search rules)

pub overflow_cast-result : goal.overflow_cast-result
overflow_cast-result c = omega (arith, crossing_within (crossed c) _ (made c))

pub overflow_add-result : goal.overflow_add-result
overflow_add-result c = omega (arith, crossing_within (crossed c) _ (made c))

pub returns : goal.returns
returns c = crossing_first (crossed c) _ (made c)
