-- Tests of signed numbers tell the order.
use Rattle.std.proofs.Common.{ℤ, ◌≤ℤ◌, ◌<ℤ◌, Decides, sym, arith}
use lib.Signed.{lt_z, le_z}
use borrow.Author.Differences.{ints, true_is_lt, true_is_le}

pub decides_lt_z : (a b : ℤ) → Decides (lt_z a b) (a <ℤ b)
decides_lt_z a b = (λ e. omega (arith, ints), λ h. sym (true_is_lt a b (omega (arith, ints))))

pub decides_le_z : (a b : ℤ) → Decides (le_z a b) (a ≤ℤ b)
decides_le_z a b = (λ e. omega (arith, ints), λ h. sym (true_is_le a b (omega (arith, ints))))
