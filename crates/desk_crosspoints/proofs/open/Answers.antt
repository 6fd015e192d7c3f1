use native.Mathlib.Omega.{arith}
use mathlib.Core.Path.{sym, ◌∙◌}
use Rattle.desk_crosspoints.proofs.Laws.{open-figures, open-count, open-mode, open-path, open_done, fit-targets-le, fit-sources-le}
use Rattle.desk_crosspoints.proofs.open.Goals as goal

pub returns-then-not-figures_fit : goal.returns-then-not-figures_fit
returns-then-not-figures_fit c =
    let the-figures-fit = c.figures_fit in
    let the-if1 = c.if-not-figures_fit in
    open-figures _ _ (the-figures-fit.ensures ∙ the-if1.true)

pub cells_of-requires : goal.cells_of-requires
cells_of-requires c =
    let the-figures-fit = c.figures_fit in
    let the-if1 = c.if-not-figures_fit in
    let h = the-figures-fit.ensures ∙ the-if1.false in (fit-targets-le _ h, fit-sources-le _ h)

pub returns-then-crosspoints-cells_of : goal.returns-then-crosspoints-cells_of
returns-then-crosspoints-cells_of c =
    let the-figures-fit = c.figures_fit in
    let the-if1 = c.if-not-figures_fit in
    let the-cells-of = c.cells_of in
    let the-if2 = c.if-crosspoints-cells_of in
    open-count _ _ (the-figures-fit.ensures ∙ the-if1.false) (λ e. the-if2.true (e ∙ the-cells-of.ensures))

pub returns-then-mode-ne0 : goal.returns-then-mode-ne0
returns-then-mode-ne0 c =
    let the-figures-fit = c.figures_fit in
    let the-if1 = c.if-not-figures_fit in
    let the-cells-of = c.cells_of in
    let the-if2 = c.if-crosspoints-cells_of in
    open-mode _ _ (the-figures-fit.ensures ∙ the-if1.false) (the-if2.false ∙ sym the-cells-of.ensures) (λ e. omega arith)

pub returns-then-not-path_fits : goal.returns-then-not-path_fits
returns-then-not-path_fits c =
    let the-figures-fit = c.figures_fit in
    let the-if1 = c.if-not-figures_fit in
    let the-cells-of = c.cells_of in
    let the-if2 = c.if-crosspoints-cells_of in
    let the-path-fits = c.path_fits in
    let the-if4 = c.if-not-path_fits in
    open-path _ _ (the-figures-fit.ensures ∙ the-if1.false) (the-if2.false ∙ sym the-cells-of.ensures)
    (omega arith) (the-path-fits.ensures ∙ the-if4.true)

pub returns : goal.returns
returns c =
    let the-figures-fit = c.figures_fit in
    let the-if1 = c.if-not-figures_fit in
    let the-cells-of = c.cells_of in
    let the-if2 = c.if-crosspoints-cells_of in
    let the-path-fits = c.path_fits in
    let the-if4 = c.if-not-path_fits in
    let the-wipe = c.wipe in
    open_done _ _ (the-figures-fit.ensures ∙ the-if1.false) (the-if2.false ∙ sym the-cells-of.ensures) _
    (omega arith) (the-path-fits.ensures ∙ the-if4.false) the-wipe.ensures
