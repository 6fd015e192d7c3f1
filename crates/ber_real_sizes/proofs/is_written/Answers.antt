use native.Mathlib.Omega.{arith}
use Rattle.ber_real_sizes.proofs.CodeLaws.{is-minus-zero, is_nan, is_number}
use Rattle.ber_real_sizes.proofs.is_written.Goals as goal

-- `ber_real_sizes::is_written` meets its contract. Assumes nothing.
pub returns-then-bits-eq9223372036854775808 : goal.returns-then-bits-eq9223372036854775808
returns-then-bits-eq9223372036854775808 c = is-minus-zero c.args.bits (omega arith)

pub returns-then-bits-gt9218868437227405312 : goal.returns-then-bits-gt9218868437227405312
returns-then-bits-gt9218868437227405312 c = is_nan c.args.bits c.ranges.bits.fits (omega arith)

pub returns : goal.returns
returns c =
    let the-if1 = c.if-bits-eq9223372036854775808 in
    is_number c.args.bits c.ranges.bits.fits the-if1.false (omega arith)
