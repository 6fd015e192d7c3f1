use Rattle.desk_crosspoints.proofs.Laws.{count-end, count-more, count-le}
use native.Mathlib.Omega.{arith}
use Rattle.desk_crosspoints.proofs.count_few.Goals as goal

pub overflow_add-n : goal.overflow_add-n
overflow_add-n c = omega (arith, count-more c.args.cells.now c.loop-c.c-index (omega arith), count-le c.args.cells.now)

pub loop-c-preserved : goal.loop-c-preserved
loop-c-preserved c = omega (arith, count-more c.args.cells.now c.loop-c.c-index (omega arith))

pub returns : goal.returns
returns c = omega (arith, count-end c.args.cells.now c.loop-c.c-index (omega arith))
