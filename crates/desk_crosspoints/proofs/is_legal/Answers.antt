use Rattle.desk_crosspoints.proofs.Laws.{fit-targets-le, fit-sources-le, legal-figures, legal-cells}
use mathlib.Core.Path.{sym, ◌∙◌}
use Rattle.desk_crosspoints.proofs.is_legal.Goals as goal

pub cells_fit-requires : goal.cells_fit-requires
cells_fit-requires c = let h = c.figures_fit.ensures ∙ c.if-figures_fit.true in (fit-targets-le _ h, fit-sources-le _ h)

pub returns-then-figures_fit : goal.returns-then-figures_fit
returns-then-figures_fit c = legal-cells _ _ (c.figures_fit.ensures ∙ c.if-figures_fit.true) ∙ c.cells_fit.ensures

pub returns-else-figures_fit : goal.returns-else-figures_fit
returns-else-figures_fit c = legal-figures _ _ (c.figures_fit.ensures ∙ c.if-figures_fit.false) ∙ sym c.if-figures_fit.false
