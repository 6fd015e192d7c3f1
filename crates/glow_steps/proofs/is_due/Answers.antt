use Rattle.glow_steps.proofs.Laws.{due-some, due-none}
use Rattle.glow_steps.proofs.is_due.Goals as goal

pub returns-then-before-required_of : goal.returns-then-before-required_of
returns-then-before-required_of c = due-some _ _ _ (rw c.required_of.ensures c.if-before-required_of.true)

pub returns : goal.returns
returns c = due-none _ _ _ (rw c.required_of.ensures c.if-before-required_of.false)
