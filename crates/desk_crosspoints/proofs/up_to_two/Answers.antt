use native.Mathlib.Omega.{arith}
use Rattle.desk_crosspoints.proofs.Sums.{one_more, two-stay}
use Rattle.desk_crosspoints.proofs.Laws.{bit_le}
use Rattle.desk_crosspoints.proofs.up_to_two.Goals as goal

pub overflow_add-result : goal.overflow_add-result
overflow_add-result c = omega (arith, bit_le c.args.c, c.bit.ensures)

pub returns-then-n-lt2 : goal.returns-then-n-lt2
returns-then-n-lt2 c = one_more _ _ c.if-n-lt2.true c.bit.ensures

pub returns : goal.returns
returns c = two-stay _ _ c.if-n-lt2.false
