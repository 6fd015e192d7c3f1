use Rattle.glow_c.proofs.Laws.{accept-yes, accept-no}
use Rattle.glow_c.proofs.glow_accepts.Goals as goal

pub returns-then-is_tree : goal.returns-then-is_tree
returns-then-is_tree c = accept-yes _ _ _ _ c.is_tree.ensures c.if-is_tree.true

pub returns : goal.returns
returns c = accept-no _ _ _ _ c.is_tree.ensures c.if-is_tree.false
