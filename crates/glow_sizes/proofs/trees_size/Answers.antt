use native.Mathlib.Omega.{arith}
use Rattle.glow_sizes.proofs.Trees.{trees-past, trees-least}
use Rattle.glow_member_sizes.specs.Spelling.{spelling}
use Rattle.glow_sizes.proofs.trees_size.Goals as goal

pub returns-then-n-start : goal.returns-then-n-start
returns-then-n-start c = trees-past (spelling c.args.least) _ _ _ _ _ _ _ _ _ c.min-n.ensures c.if-n-start.true

pub items-requires : goal.items-requires
items-requires c = (c.if-n-start.false, omega arith)

pub returns : goal.returns
returns c = trees-least (spelling c.args.least) _ _ _ _ _ _ _ _ _ c.min-n.ensures _ c.items.ensures.gives
