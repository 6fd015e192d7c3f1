use Rattle.desk_rows.proofs.Rows.{matrix-is}
use Rattle.desk_rows.proofs.matrix_row.Goals as goal

pub returns : goal.returns
returns c =
    let the-index = c.index-path in
    let the_number = c.number-matrix_type in
    let the-number2 = c.number-targets in
    let the-number3 = c.number-sources in
    let the-limit = c.limit-total_limit in
    let the-limit2 = c.limit-target_limit in
    matrix-is c.args.f c.args.len _ the-index.ensures _ _ _ _ _ the_number.ensures the-number2.ensures the-number3.ensures
    the-limit.ensures the-limit2.ensures _ c.matrix_row.ensures
