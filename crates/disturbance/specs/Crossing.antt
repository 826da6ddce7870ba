-- A straight line that reaches a goal, in whole numbers.
use Rattle.std.specs.Prelude.{ℕ, ◌+◌, ◌-◌, ◌*◌, ◌≤◌}

-- at the time u, of from to end, the line from x at start to y at end, taken end - start times, is at least goal
pub record Reached (start x end y goal from u : ℕ) : Type 0 where
  pub after : from ≤ u
  pub until : u ≤ end
  pub level : goal ≤ x * (end - u) + y * (u - start)
