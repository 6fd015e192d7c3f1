use mathlib.Core.Path.{◌∙◌}
use Rattle.glow_rows.proofs.Words.{same-is}
use Rattle.glow_rows.proofs.is_same.Goals as goal

pub returns : goal.returns
returns c = c.eq.ensures ∙ same-is _ _
