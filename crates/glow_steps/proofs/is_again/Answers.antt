use Rattle.glow_steps.proofs.Laws.{again-set, again-not}
use mathlib.Core.Path.{◌∙◌}
use Rattle.glow_steps.proofs.is_again.Goals as goal

pub returns-then-is_set : goal.returns-then-is_set
returns-then-is_set c = again-set _ _ _ (c.is_set.ensures ∙ c.if-is_set.true) ∙ c.is_marked.ensures

pub returns : goal.returns
returns c = again-not _ _ _ (c.is_set.ensures ∙ c.if-is_set.false)
