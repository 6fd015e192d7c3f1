use Rattle.glow_walk.proofs.Held.{ended-due, ended-read}
use mathlib.Core.Path.{◌∙◌}
use Rattle.glow_walk.proofs.ended.Goals as goal

pub returns-then-is_due : goal.returns-then-is_due
returns-then-is_due c = ended-due _ _ _ (c.is_due.ensures ∙ c.if-is_due.true)

pub returns : goal.returns
returns c = ended-read _ _ _ (c.is_due.ensures ∙ c.if-is_due.false)
