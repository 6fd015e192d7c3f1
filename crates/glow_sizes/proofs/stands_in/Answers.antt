use Rattle.glow_sizes.proofs.Places.{in-zero, in-zero-children, in-root, in-children, in-connections, in-streams, in-which, in-kind, in-none}
use native.Mathlib.Omega.{arith}
use Rattle.glow_sizes.proofs.stands_in.Goals as goal

pub returns-then-kind-eq0 : goal.returns-then-kind-eq0
returns-then-kind-eq0 c = in-which _ 0 _ c.in-0.is (in-kind 0 _ 0 c.if-kind-eq0.true (in-zero 0))

pub returns-then-kind-eq0-2 : goal.returns-then-kind-eq0-2
returns-then-kind-eq0-2 c = in-which _ 1 _ c.in-1.is (in-kind 1 _ 0 c.if-kind-eq0-2.true (in-zero-children 0))

pub returns-else-kind-eq0 : goal.returns-else-kind-eq0
returns-else-kind-eq0 c = in-which _ 0 _ c.in-0.is (in-root _ c.if-kind-eq0.false)

pub returns-else-kind-eq0-2 : goal.returns-else-kind-eq0-2
returns-else-kind-eq0-2 c = in-which _ 1 _ c.in-1.is (in-children _ c.if-kind-eq0-2.false)

pub returns-in-2 : goal.returns-in-2
returns-in-2 c = in-which _ 2 _ c.in-2.is (in-connections _)

pub returns-in-3 : goal.returns-in-3
returns-in-3 c = in-which _ 3 _ c.in-3.is (in-streams _)

pub returns-in_default : goal.returns-in_default
returns-in_default c = in-none _ _ (omega arith)
