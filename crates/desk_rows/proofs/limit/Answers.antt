use mathlib.Core.Path.{sym, ap, ◌∙◌}
use Rattle.desk_rows.specs.Rows.{limit_cell}
use Rattle.desk_rows.proofs.limit.Goals as goal

pub returns-in-Some : goal.returns-in-Some
returns-in-Some c = c.number.ensures ∙ sym (ap limit_cell c.in-Some.is)
