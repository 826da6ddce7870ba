-- Windows on the clock of the record: shifted, and cut at recovery.
use Rattle.std.specs.Prelude.{ℕ, ◌-◌, ◌*◌, ◌<◌, ◌≤◌, cond, ℤ, pos, ◌+ℤ◌, ◌-ℤ◌, ◌≤ℤ◌, Some, None, Option, int_le}
use borrow.Author.Differences.{up}
use Rattle.std.specs.Int.{int_min, div_ceil}
use Rattle.response.specs.declared.group.Window.{Window}
use Rattle.response.specs.declared.setup.Trigger.{Trigger}
use Rattle.figure.specs.declared.span.Span.{Span}

-- ---- 3. the shift

-- the dip from which a ramp is counted, in mHz
abbrev pub ramp_start : ℕ
ramp_start = 150

-- the whole milliseconds that a dip takes to the trigger at the ramp rate, rounded up
abbrev pub ramp_time : ℕ → Trigger → ℕ
ramp_time rate g = div_ceil ((g.dip - ramp_start) * 1000) rate

-- by how much the windows are shifted: 0 without a trigger, none where the trigger time does not exist
abbrev pub shift_of : ℕ → ℕ → Option Trigger → Option ℕ → Option ℤ
shift_of rate T None time = Some (pos 0)
shift_of rate T (Some g) None = None
shift_of rate T (Some g) (Some S) = Some (pos S -ℤ pos T -ℤ pos (ramp_time rate g))

-- ---- 4. the windows

-- the earlier of a time and any recovery
abbrev pub cut_at : Option ℕ → ℤ → ℤ
cut_at None t = t
cut_at (Some recovery) t = int_min t (pos recovery)

-- a window runs from T + shift + start to T + shift + end, cut at recovery; it may begin before the clock does
abbrev pub placed : ℕ → ℤ → Option ℕ → Window → Span
placed T shift recovery w = record { start = pos T +ℤ shift +ℤ pos w.start; end = cut_at recovery (pos T +ℤ shift +ℤ pos w.end); multiplier = w.multiplier }

abbrev pub Empty : Span → Type 0
Empty s = s.end ≤ℤ s.start

-- a window whose ends are times of the clock
abbrev pub on_clock : Span → Window
on_clock s = record { start = up s.start; end = up s.end; multiplier = s.multiplier }

-- none where it is empty
abbrev pub unless_empty : Span → Option Window
unless_empty s = cond (int_le s.end s.start) None (Some (on_clock s))

-- a window that can be averaged: it starts before it ends, and counts at most twice
pub record Proper (w : Window) : Type 0 where
  pub rises : w.start < w.end
  pub times : w.multiplier ≤ 2
