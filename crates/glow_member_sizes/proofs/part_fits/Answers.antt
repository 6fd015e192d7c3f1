use Rattle.glow_member_sizes.specs.Sizes.{is_kept}
use mathlib.Core.Path.{ap, ◌∙◌}
use Rattle.glow_member_sizes.proofs.part_fits.Goals as goal

pub returns-then-word_of : goal.returns-then-word_of
returns-then-word_of c = ap is_kept (c.word_of.ensures c.if-word_of.true 0 0)

pub returns-in-Refused : goal.returns-in-Refused
returns-in-Refused c = ap is_kept (c.read_leaf.ensures.above_value ∙ c.in-Refused.is)

pub returns-in-Kept : goal.returns-in-Kept
returns-in-Kept c = ap is_kept (c.read_leaf.ensures.above_value ∙ c.in-Kept.is)
