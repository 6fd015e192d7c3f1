use Rattle.desk_crosspoints.proofs.Laws.{cells_count, cells-bits, cells-rows, cells_rest, rows_are, size_is}
use mathlib.Core.Path.{sym, ◌∙◌}
use Rattle.desk_crosspoints.proofs.cells_fit.Goals as goal

pub returns-then-cells-cells_of : goal.returns-then-cells-cells_of
returns-then-cells-cells_of c =
    let the-cells-of = c.cells_of in
    let the-if1 = c.if-cells-cells_of in
    cells_count _ _ (λ e. the-if1.true (e ∙ the-cells-of.ensures))

pub returns-then-not-all_bits : goal.returns-then-not-all_bits
returns-then-not-all_bits c =
    let the-cells-of = c.cells_of in
    let the-if1 = c.if-cells-cells_of in
    let the-all-bits = c.all_bits in
    let the-if2 = c.if-not-all_bits in
    cells-bits _ _ (the-if1.false ∙ sym the-cells-of.ensures) (the-all-bits.ensures ∙ the-if2.true)

pub rows_fit-requires : goal.rows_fit-requires
rows_fit-requires c =
    let the-cells-of = c.cells_of in
    let the-if1 = c.if-cells-cells_of in
    let the-index = c.index in
    let the-index2 = c.index-2 in
    size_is c.args.f c.args.cells.now _ _ the-index.ensures the-index2.ensures (the-if1.false ∙ sym the-cells-of.ensures)

pub returns-then-not-rows_fit : goal.returns-then-not-rows_fit
returns-then-not-rows_fit c =
    let the-cells-of = c.cells_of in
    let the-if1 = c.if-cells-cells_of in
    let the-all-bits = c.all_bits in
    let the-if2 = c.if-not-all_bits in
    let the-index = c.index in
    let the-index2 = c.index-2 in
    let the-most-each = c.most_each in
    let the-rows-fit = c.rows_fit in
    let the-if3 = c.if-not-rows_fit in
    cells-rows _ _ (the-if1.false ∙ sym the-cells-of.ensures) (the-all-bits.ensures ∙ the-if2.false)
    (rows_are _ _ _ _ _ _ the-index.ensures the-index2.ensures the-most-each.ensures (the-rows-fit.ensures ∙ the-if3.true))

pub kind_fits-requires : goal.kind_fits-requires
kind_fits-requires c =
    let the-cells-of = c.cells_of in
    let the-if1 = c.if-cells-cells_of in record { sources_le_side = c.requires.1; cells_len = the-if1.false ∙ sym the-cells-of.ensures }

pub returns : goal.returns
returns c =
    let the-cells-of = c.cells_of in
    let the-if1 = c.if-cells-cells_of in
    let the-all-bits = c.all_bits in
    let the-if2 = c.if-not-all_bits in
    let the-index = c.index in
    let the-index2 = c.index-2 in
    let the-most-each = c.most_each in
    let the-rows-fit = c.rows_fit in
    let the-if3 = c.if-not-rows_fit in
    let the-kind-fits = c.kind_fits in
    cells_rest _ _ (the-if1.false ∙ sym the-cells-of.ensures) (the-all-bits.ensures ∙ the-if2.false)
    (rows_are _ _ _ _ _ _ the-index.ensures the-index2.ensures the-most-each.ensures (the-rows-fit.ensures ∙ the-if3.false))
    ∙ the-kind-fits.ensures
