use Rattle.glow_sizes.proofs.Trees.{next-not, next-is}
use Rattle.glow_sizes.proofs.is_next.Goals as goal

pub returns-then-word_at-parent : goal.returns-then-word_at-parent
returns-then-word_at-parent c = next-not _ _ _ _ c.word_at.ensures c.if-word_at-parent.true

pub returns : goal.returns
returns c =
    next-is _ _ _ _ _ _ _ c.word_at.ensures c.if-word_at-parent.false
    c.word_at-2.ensures c.stands_in.ensures
