use native.Mathlib.Omega.{arith}
use mathlib.Core.Path.{◌≡◌, refl}
use lib.ListN.{length-set}
use Rattle.desk_crosspoints.proofs.Under.{rows_apart}
use Rattle.desk_requests.proofs.Laws.{taken_none, taken_more}
use Rattle.desk_calls.proofs.take_from.Goals as goal

pub loop-t-init : goal.loop-t-init
loop-t-init c = (taken_none _ _ _, refl)

pub overflow_mul-t : goal.overflow_mul-t
overflow_mul-t c = omega (arith, rows_apart c.loop-t.t c.args.n c.args.w (omega arith))

pub overflow_add-t : goal.overflow_add-t
overflow_add-t c = omega (arith, rows_apart c.loop-t.t c.args.n c.args.w (omega arith))

pub bounds-cells-i : goal.bounds-cells-i
bounds-cells-i c = omega (arith, rows_apart c.loop-t.t c.args.n c.args.w (omega arith), c.loop-t.invariant.1, c.index-i.ensures)

pub loop-t-preserved : goal.loop-t-preserved
loop-t-preserved c = (taken_more _ _ _ _ c.loop-t.t _ c.loop-t.invariant.0 c.index-i.ensures, simp length-set c.loop-t.invariant.1)

pub shape_of-cells : goal.shape_of-cells
shape_of-cells c = c.loop-t.invariant.1

pub returns : goal.returns
returns c = let d : c.loop-t.t ≡ c.args.n = omega arith in rw d at c.loop-t.invariant.0
