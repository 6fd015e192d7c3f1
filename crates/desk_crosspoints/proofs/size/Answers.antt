use mathlib.Core.Path.{◌∙◌}
use Rattle.desk_crosspoints.proofs.Laws.{size_none, size_fits, fit-targets-le, fit-sources-le}
use Rattle.desk_crosspoints.proofs.size.Goals as goal

pub returns-then-not-figures_fit : goal.returns-then-not-figures_fit
returns-then-not-figures_fit c =
    let the-figures-fit = c.figures_fit in
    let the-if1 = c.if-not-figures_fit in
    size_none _ (the-figures-fit.ensures ∙ the-if1.true)

pub cells_of-requires : goal.cells_of-requires
cells_of-requires c =
    let the-figures-fit = c.figures_fit in
    let the-if1 = c.if-not-figures_fit in
    let h = the-figures-fit.ensures ∙ the-if1.false in (fit-targets-le _ h, fit-sources-le _ h)

pub returns : goal.returns
returns c =
    let the-figures-fit = c.figures_fit in
    let the-if1 = c.if-not-figures_fit in
    let the-cells-of = c.cells_of in
    size_fits _ (the-figures-fit.ensures ∙ the-if1.false) ∙ the-cells-of.ensures
