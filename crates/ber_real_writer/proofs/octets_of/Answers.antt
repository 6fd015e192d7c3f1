use native.Mathlib.Omega.{arith}
use lib.Ieee.Digits.{size-le}
use Rattle.ber_real_writer.proofs.octets_of.Goals as goal

pub overflow_add-result : goal.overflow_add-result
overflow_add-result c = omega (arith, size-le c.args.m 64 c.ranges.m.fits)

pub returns : goal.returns
returns c = let l = size-le c.args.m 64 c.ranges.m.fits in record { value = omega arith; upper_bound = omega arith }
