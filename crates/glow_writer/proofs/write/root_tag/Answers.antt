use Rattle.glow_writer.proofs.Putting.{root-first, root-other}
use Rattle.glow_writer.proofs.write.root_tag.Goals as goal

pub returns-then-root-eq-ROOT_ELEMENTS : goal.returns-then-root-eq-ROOT_ELEMENTS
returns-then-root-eq-ROOT_ELEMENTS c = root-first _ c.if-root-eq-ROOT_ELEMENTS.true

pub returns-else-root-eq-ROOT_ELEMENTS : goal.returns-else-root-eq-ROOT_ELEMENTS
returns-else-root-eq-ROOT_ELEMENTS c = root-other _ c.if-root-eq-ROOT_ELEMENTS.false
