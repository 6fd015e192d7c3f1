use Rattle.glow_sizes.proofs.Trees.{tree-sized}
use Rattle.glow_sizes.proofs.tree_size.Goals as goal

pub returns : goal.returns
returns c =
    tree-sized _ _ _ _ _ _ _ _ _ _ _ c.wrapped_size.ensures
    c.wrapped_size-2.ensures c.plus.ensures
    c.plus-held.ensures c.around.ensures c.around-2.ensures c.plus-2.ensures
