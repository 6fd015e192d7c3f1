use Rattle.glow_steps.proofs.Laws.{other-set, other-not}
use mathlib.Core.Path.{◌∙◌}
use Rattle.glow_steps.proofs.after_other.Goals as goal

pub returns-then-is_set : goal.returns-then-is_set
returns-then-is_set c = other-set _ _ _ (c.is_set.ensures ∙ c.if-is_set.true)

pub returns : goal.returns
returns c = other-not _ _ _ (c.is_set.ensures ∙ c.if-is_set.false)
