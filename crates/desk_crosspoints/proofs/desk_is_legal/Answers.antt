use mathlib.Core.Path.{sym, ◌∙◌}
use Rattle.desk_crosspoints.proofs.Paths.{desk-path, desk-rest}
use Rattle.desk_crosspoints.proofs.desk_is_legal.Goals as goal

pub returns-then-path_fits : goal.returns-then-path_fits
returns-then-path_fits c = desk-rest _ (c.path_fits.ensures ∙ c.if-path_fits.true) ∙ c.is_legal.ensures

pub returns-else-path_fits : goal.returns-else-path_fits
returns-else-path_fits c = desk-path _ (c.path_fits.ensures ∙ c.if-path_fits.false) ∙ sym c.if-path_fits.false
