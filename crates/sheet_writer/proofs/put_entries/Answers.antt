use Rattle.sheet_writer.proofs.Entries.{desk-counts, path-end, entries-put}
use Rattle.desk_crosspoints.specs.Desk.{desk_at}
use lib.ListN.{length-set}
use native.Mathlib.Omega.{arith}
use mathlib.Core.Path.{◌∙◌}
use Rattle.sheet_writer.proofs.put_entries.Goals as goal

pub put_links-requires : goal.put_links-requires
put_links-requires c =
    let d = desk_at c.args.f c.args.path.now c.args.cells.now in
    let ok = c.requires.cells_value in
    let lens = c.requires.rows_len in
    let n = desk-counts d ok c.index-targets.ensures c.index-sources.ensures in
    let e = path-end d ok _ (omega (arith, lens)) c.write_oid.ensures in record {
      cells_len = (n.0, n.1.1);
      targets_le_side = (
        n.1.0,
        (
          length-set c.args.rows.now 0 c.matrix_row.result ∙ lens.0,
          (c.write_oid.auto.out ∙ lens.1, omega (arith, e, c.end_of-end.ensures)),
        ),
      );
    }

pub overflow_add-result : goal.overflow_add-result
overflow_add-result c =
    let d = desk_at c.args.f c.args.path.now c.args.cells.now in
    let n = desk-counts d c.requires.cells_value c.index-targets.ensures c.index-sources.ensures in
    omega (arith, n.1.0)

pub shape_of-rows : goal.shape_of-rows
shape_of-rows c = c.put_links.auto.rows ∙ length-set c.args.rows.now 0 c.matrix_row.result

pub returns : goal.returns
returns c =
    let lens = c.requires.rows_len in
    let d = desk_at c.args.f c.args.path.now c.args.cells.now in let both = entries-put d c.requires.cells_value c.args.rows.now (omega (arith, lens))
    c.args.octets.now (omega (arith, lens)) c.write_oid.ensures c.end_of-end.ensures c.word.ensures c.matrix_row.ensures
    c.index-targets.ensures c.index-sources.ensures c.put_links.ensures in record { result_after = both.0; upper_bound = both.1 }
