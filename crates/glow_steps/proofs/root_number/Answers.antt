use Rattle.glow_steps.proofs.Rooted.{root-elements, root-streams, root_none}
use Rattle.glow_steps.proofs.root_number.Goals as goal

pub returns-then-number-eq-ROOT_ELEMENT_COLLECTION : goal.returns-then-number-eq-ROOT_ELEMENT_COLLECTION
returns-then-number-eq-ROOT_ELEMENT_COLLECTION c = root-elements _ c.if-number-eq-ROOT_ELEMENT_COLLECTION.true

pub returns-then-number-eq-STREAM_COLLECTION : goal.returns-then-number-eq-STREAM_COLLECTION
returns-then-number-eq-STREAM_COLLECTION c = root-streams _ c.if-number-eq-ROOT_ELEMENT_COLLECTION.false c.if-number-eq-STREAM_COLLECTION.true

pub returns-else-number-eq-STREAM_COLLECTION : goal.returns-else-number-eq-STREAM_COLLECTION
returns-else-number-eq-STREAM_COLLECTION c = root_none _ c.if-number-eq-ROOT_ELEMENT_COLLECTION.false c.if-number-eq-STREAM_COLLECTION.false
