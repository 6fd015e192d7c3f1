use Rattle.glow_sizes.proofs.Trees.{may-empty, may-rule}
use Rattle.glow_sizes.proofs.may_hold.Goals as goal

pub returns-then-next-from : goal.returns-then-next-from
returns-then-next-from c = let a = c.args in may-empty a.kind a.c a.what a.from a.next c.if-next-from.true

pub returns : goal.returns
returns c = let a = c.args in may-rule a.kind a.c a.what a.from a.next _ c.rule_of.ensures c.if-next-from.false
