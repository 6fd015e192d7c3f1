use borrow.Author.Tests.{leb-true}
use Rattle.glow_leaves.proofs.Words.{counted-any, counted-from}
use Rattle.glow_leaves.proofs.is_counted.Goals as goal

pub returns-then-what-eq-ANY : goal.returns-then-what-eq-ANY
returns-then-what-eq-ANY c = λ e. counted-any _ c.if-what-eq-ANY.true

pub returns : goal.returns
returns c = λ e. counted-from _ (leb-true _ _ e)
