use borrow.Author.Tests.{ne_eqb}
use Rattle.glow_leaves.proofs.spoiled.Goals as goal

pub returns : goal.returns
returns c = rw (ne_eqb _ _ c.if-number-eq0.false)
