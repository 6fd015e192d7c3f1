use native.Mathlib.Omega.{arith}
use lib.Count.{leading_le}
use Rattle.ber_reals.proofs.Odd.{size-leading}
use Rattle.ber_reals.proofs.bits.Goals as goal

-- `ber_reals::bits` meets its contract. Assumes nothing.
pub overflow_cast-result : goal.overflow_cast-result
overflow_cast-result c = omega (arith, leading_le 64 c.args.m)

pub overflow_sub-result : goal.overflow_sub-result
overflow_sub-result c = leading_le 64 c.args.m

pub returns : goal.returns
returns c = omega (arith, size-leading 64 c.args.m c.ranges.m.fits)
