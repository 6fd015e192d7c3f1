use lib.Seq.{length-take-le}
use mathlib.Core.Path.{sym}
use native.Mathlib.Omega.{arith}
use Rattle.desk_rows.proofs.Sources.{put-long, put-list}
use Rattle.desk_rows.proofs.put_sources.Goals as goal

pub returns-then-cells-gt-SIDE : goal.returns-then-cells-gt-SIDE
returns-then-cells-gt-SIDE c = put-long _ _ _ c.if-cells-gt-SIDE.true

pub slice_bounds-write_oid-end : goal.slice_bounds-write_oid-end
slice_bounds-write_oid-end c = sym (length-take-le _ _ (omega arith))

pub returns : goal.returns
returns c =
    let the-if1 = c.if-cells-gt-SIDE in
    let the-list-sources = c.list_sources-n in
    let the-write-oid = c.write_oid in
    put-list _ _ _ the-if1.false _ the-list-sources.ensures.list_after the-write-oid.ensures
