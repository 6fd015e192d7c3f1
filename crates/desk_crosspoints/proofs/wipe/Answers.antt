use Rattle.desk_crosspoints.proofs.Laws.{clear-replicate}
use mathlib.Core.Path.{◌∙◌}
use Rattle.desk_crosspoints.proofs.wipe.Goals as goal

pub returns : goal.returns
returns c = c.fill.ensures.after (λ y e. e) ∙ clear-replicate _
