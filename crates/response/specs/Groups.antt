-- The table of groups, and what every row of it keeps to. Times are in ms after the disturbance.
use Rattle.std.specs.Prelude.{ℕ, ◌-◌, ◌<◌, ◌≤◌}
use Rattle.response.specs.declared.group.Group.{Group}
use Rattle.response.specs.declared.group.Group.TheVariants.{Fast, Slow, Delayed}
use Rattle.response.specs.declared.group.Window.{Window}
use Rattle.response.specs.declared.group.Row.{Row}
use Rattle.response.specs.Limits.{Within}

-- a window from start to end, with its multiplier
abbrev window : ℕ → ℕ → ℕ → Window
window start end multiplier = record { start = start; end = end; multiplier = multiplier }

-- two windows and the widest gap
abbrev row : Window → Window → ℕ → Row
row first second gap = record { first = first; second = second; widest_gap = gap }

-- the windows from start to end with their multipliers, and the widest gap
abbrev pub row_of : Group → Row
row_of Fast = row (window 0 6000 2) (window 6000 60000 2) 50
row_of Slow = row (window 6000 60000 2) (window 60000 300000 2) 4000
row_of Delayed = row (window 60000 300000 2) (window 300000 900000 1) 4000

-- a window that can be averaged: it starts before it ends, is at most 900,000 long, and counts once or twice
pub record SoundWindow (w : Window) : Type 0 where
  pub rises : w.start < w.end
  pub length : w.end - w.start ≤ 900000
  pub times : Within 1 2 w.multiplier

-- a row of two such windows
pub record Sound (r : Row) : Type 0 where
  pub first : SoundWindow r.first
  pub second : SoundWindow r.second
