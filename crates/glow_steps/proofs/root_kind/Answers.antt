use Rattle.glow_steps.proofs.Rooted.{root-other, root-held}
use mathlib.Core.Path.{◌∙◌}
use Rattle.glow_steps.proofs.root_kind.Goals as goal

pub returns-then-is_tag : goal.returns-then-is_tag
returns-then-is_tag c = root-held _ (c.is_tag.ensures ∙ c.if-is_tag.true) ∙ c.root_number.ensures

pub returns : goal.returns
returns c = root-other _ (c.is_tag.ensures ∙ c.if-is_tag.false)
