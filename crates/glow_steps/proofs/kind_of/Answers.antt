use Rattle.glow_steps.proofs.Laws.{kind-held, kind-other}
use mathlib.Core.Path.{◌∙◌}
use Rattle.glow_steps.proofs.kind_of.Goals as goal

pub returns-then-is_tag : goal.returns-then-is_tag
returns-then-is_tag c = kind-held _ _ (c.is_tag.ensures ∙ c.if-is_tag.true) ∙ c.kind_in.ensures

pub returns : goal.returns
returns c = kind-other _ _ (c.is_tag.ensures ∙ c.if-is_tag.false)
