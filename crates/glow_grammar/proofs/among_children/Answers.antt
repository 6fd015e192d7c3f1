use native.Mathlib.Omega.{arith}
use Rattle.glow_grammar.specs.Grammar.{holds, applications}
use Rattle.glow_grammar.proofs.Tables.{kind_at}
use Rattle.glow_grammar.proofs.among_children.Goals as goal

pub returns-in-1 : goal.returns-in-1
unfolding holds applications
returns-in-1 c = kind_at 1 _ _ (omega arith)

pub returns-in-2 : goal.returns-in-2
unfolding holds applications
returns-in-2 c = kind_at 1 _ _ (omega arith)

pub returns-in-3 : goal.returns-in-3
unfolding holds applications
returns-in-3 c = kind_at 1 _ _ (omega arith)

pub returns-in-13 : goal.returns-in-13
unfolding holds applications
returns-in-13 c = kind_at 1 _ _ (omega arith)

pub returns-in_default : goal.returns-in_default
unfolding holds applications
returns-in_default c = kind_at 1 _ _ (omega arith)
