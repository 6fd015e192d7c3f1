use native.Mathlib.Omega.{arith}
use Rattle.glow_grammar.specs.Grammar.{holds, applications}
use Rattle.glow_grammar.proofs.Tables.{kind_at}
use Rattle.glow_grammar.proofs.at_root.Goals as goal

pub returns-in-1 : goal.returns-in-1
unfolding holds applications
returns-in-1 c = kind_at 0 _ _ (omega arith)

pub returns-in-2 : goal.returns-in-2
unfolding holds applications
returns-in-2 c = kind_at 0 _ _ (omega arith)

pub returns-in-3 : goal.returns-in-3
unfolding holds applications
returns-in-3 c = kind_at 0 _ _ (omega arith)

pub returns-in-9 : goal.returns-in-9
unfolding holds applications
returns-in-9 c = kind_at 0 _ _ (omega arith)

pub returns-in-10 : goal.returns-in-10
unfolding holds applications
returns-in-10 c = kind_at 0 _ _ (omega arith)

pub returns-in-13 : goal.returns-in-13
unfolding holds applications
returns-in-13 c = kind_at 0 _ _ (omega arith)

pub returns-in-17 : goal.returns-in-17
unfolding holds applications
returns-in-17 c = kind_at 0 _ _ (omega arith)

pub returns-in_default : goal.returns-in_default
unfolding holds applications
returns-in_default c =
    let r = c.in_default.in_default-own.rest in
    kind_at 0 _ 0
    (r.0.0.0.0.0.0.1, (r.0.0.0.0.0.1, (r.0.0.0.0.1, (r.0.1, (r.0.0.0.1, (r.0.0.1, (r.1, tt)))))))
