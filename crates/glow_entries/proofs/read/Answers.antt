use Rattle.glow_entries.proofs.Answers.{told_is, told-other}
use Rattle.glow_entries.proofs.read.Goals as goal

pub returns-then-is_same : goal.returns-then-is_same
returns-then-is_same g c = told_is _ _ _ _ _ c.at-e.ensures c.row-again.ensures c.is_same.ensures c.if-is_same.true

pub returns-else-is_same : goal.returns-else-is_same
returns-else-is_same g c = told-other _ _ _ _ _ c.at-e.ensures c.row-again.ensures c.is_same.ensures c.if-is_same.false
