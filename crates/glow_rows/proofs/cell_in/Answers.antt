use mathlib.Core.Path.{◌∙◌}
use Rattle.glow_rows.proofs.Words.{row-cell, row-past}
use Rattle.glow_rows.proofs.cell_in.Goals as goal

pub returns-then-c-ge16 : goal.returns-then-c-ge16
returns-then-c-ge16 c = c.absent.ensures ∙ row-past _ _ c.if-c-ge16.true

pub returns : goal.returns
returns c = row-cell _ _ c.if-c-ge16.false
