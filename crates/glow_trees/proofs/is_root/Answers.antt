use Rattle.glow_trees.proofs.Laws.{root-zero, root-other}
use Rattle.glow_trees.proofs.is_root.Goals as goal

pub returns-then-root-eq-ROOT_ELEMENTS : goal.returns-then-root-eq-ROOT_ELEMENTS
returns-then-root-eq-ROOT_ELEMENTS c = root-zero _ c.if-root-eq-ROOT_ELEMENTS.true

pub returns : goal.returns
returns c = root-other _ c.if-root-eq-ROOT_ELEMENTS.false
