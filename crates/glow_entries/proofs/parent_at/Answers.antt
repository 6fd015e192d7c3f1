use Rattle.glow_entries.proofs.Answers.{parent-root, parent-at, parent-past}
use Rattle.glow_entries.proofs.parent_at.Goals as goal

pub returns-then-w-eq0 : goal.returns-then-w-eq0
returns-then-w-eq0 c = parent-root _ c.if-w-eq0.true

pub returns-then-w-le4294967296 : goal.returns-then-w-le4294967296
returns-then-w-le4294967296 c = parent-at _ c.if-w-eq0.false c.if-w-le4294967296.true

pub returns : goal.returns
returns c = parent-past _ c.if-w-eq0.false c.if-w-le4294967296.false
