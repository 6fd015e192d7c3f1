use Prim.Native.Nat.{◌+◌}
use mathlib.Core.Path.{◌≡◌}
use native.Mathlib.Omega.{arith}
use Rattle.desk_rows.proofs.Sources.{list-stays, list-more, list-whole}
use Rattle.desk_rows.proofs.list_sources.Goals.{then-c-ne0, else-c-ne0}
use Rattle.desk_rows.proofs.list_sources.Goals as goal

pub loop-s-preserved : goal.loop-s-preserved
loop-s-preserved c =
    let l = c.loop-s in
    let cells = c.args.cells.now in
    elim c.if-c-ne0.branch [
      | then-c-ne0 w ↦ let k : c.if-c-ne0.n ≡ l.n + 1 = omega arith in rw (w.list-is, k) (
        omega arith,
        list-more cells l.s l.list l.n l.invariant.1 (omega arith) w.if-c-ne0.true (omega arith) w.word.ensures,
      )
      | else-c-ne0 w ↦ rw (w.list-is, w.n-is) (omega arith, list-stays cells l.s l.list l.n l.invariant.1 (omega arith) w.if-c-ne0.false)
    ]

pub returns : goal.returns
returns c =
    record { list_after = list-whole c.args.cells.now c.loop-s.s c.loop-s.list c.loop-s.n c.loop-s.invariant.1 (omega arith); upper_bound = omega arith }
