use native.Mathlib.Omega.{arith}
use Rattle.glow_grammar.specs.Grammar.{holds, applications}
use Rattle.glow_grammar.proofs.Tables.{kind_at, kind-which, kind-none}
use Rattle.glow_grammar.proofs.kind_in.Goals as goal

pub returns-then-number-eq-CONNECTION : goal.returns-then-number-eq-CONNECTION
unfolding holds applications
returns-then-number-eq-CONNECTION c = kind-which _ c.in-2.is (kind_at 2 _ _ (omega arith))

pub returns-then-number-eq-STREAM_ENTRY : goal.returns-then-number-eq-STREAM_ENTRY
unfolding holds applications
returns-then-number-eq-STREAM_ENTRY c = kind-which _ c.in-3.is (kind_at 3 _ _ (omega arith))

pub returns-in-0 : goal.returns-in-0
returns-in-0 c = kind-which _ c.in-0.is c.at_root.ensures

pub returns-in-1 : goal.returns-in-1
returns-in-1 c = kind-which _ c.in-1.is c.among_children.ensures

pub returns-else-number-eq-CONNECTION : goal.returns-else-number-eq-CONNECTION
unfolding holds applications
returns-else-number-eq-CONNECTION c = kind-which _ c.in-2.is (kind_at 2 _ _ (omega arith))

pub returns-else-number-eq-STREAM_ENTRY : goal.returns-else-number-eq-STREAM_ENTRY
unfolding holds applications
returns-else-number-eq-STREAM_ENTRY c = kind-which _ c.in-3.is (kind_at 3 _ _ (omega arith))

pub returns-in_default : goal.returns-in_default
unfolding holds
returns-in_default c = kind-none _ _ (omega arith)
