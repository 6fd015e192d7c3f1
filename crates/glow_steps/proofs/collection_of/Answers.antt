use Rattle.glow_steps.proofs.Rooted.{collection-kids, collection-links}
use Rattle.glow_steps.proofs.collection_of.Goals as goal

pub returns-then-what-eq-KIDS : goal.returns-then-what-eq-KIDS
returns-then-what-eq-KIDS c = collection-kids _ c.if-what-eq-KIDS.true

pub returns-else-what-eq-KIDS : goal.returns-else-what-eq-KIDS
returns-else-what-eq-KIDS c = collection-links _ c.if-what-eq-KIDS.false
