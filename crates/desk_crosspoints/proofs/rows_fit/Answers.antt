use Rattle.desk_crosspoints.proofs.Under.{rows_apart}
use Rattle.desk_crosspoints.proofs.Laws.{rows_none, rows_more, rows-over, row-says}
use mathlib.Core.Path.{◌≡◌, refl, ◌∙◌}
use borrow.Author.Tests.{lt-leb, le-leb}
use native.Mathlib.Omega.{arith}
use Rattle.desk_crosspoints.proofs.rows_fit.Goals as goal

pub loop-t-init : goal.loop-t-init
loop-t-init c = rows_none _ _ _

pub overflow_mul-from : goal.overflow_mul-from
overflow_mul-from c = omega (arith, rows_apart c.loop-t.t c.args.n c.args.w (omega arith))

pub overflow_add-to : goal.overflow_add-to
overflow_add-to c = omega (arith, rows_apart c.loop-t.t c.args.n c.args.w (omega arith))

pub returns-then-most-count : goal.returns-then-most-count
returns-then-most-count c =
    rows-over _ _ _ c.loop-t.t c.args.n (omega arith) (row-says _ _ _ c.loop-t.t _ _ _ refl c.count.ensures (lt-leb _ _ c.if-most-count.true))

pub loop-t-preserved : goal.loop-t-preserved
loop-t-preserved c =
    rows_more _ _ _ _ c.loop-t.t (omega arith)
    (row-says _ _ _ c.loop-t.t _ _ _ refl c.count.ensures (le-leb _ _ c.if-most-count.false))
    ∙ c.loop-t.invariant

pub returns : goal.returns
returns c =
    let d : c.loop-t.t ≡ c.args.n = omega arith in
    rw d at c.loop-t.invariant
