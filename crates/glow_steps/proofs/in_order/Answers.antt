use Rattle.glow_steps.proofs.Laws.{order-set, order-due, order-low}
use Prim.Native.Nat.{◌≤◌, ◌<◌}
use native.Mathlib.Omega.{arith}
use mathlib.Core.Bool.{not}
use mathlib.Core.Path.{ap, ◌∙◌}
use Rattle.glow_steps.proofs.in_order.Goals as goal

pub returns-then-is_set : goal.returns-then-is_set
returns-then-is_set c = order-set _ _ _ (c.is_set.ensures ∙ c.if-is_set.true)

pub returns-then-before-n : goal.returns-then-before-n
returns-then-before-n c =
    let a = c.args in
    let h : a.before ≤ a.n = omega (arith, c.if-before-n.true) in
    order-due a.row a.before a.n (c.is_set.ensures ∙ c.if-is_set.false) h ∙ ap not c.is_due.ensures

pub returns : goal.returns
returns c =
    let a = c.args in
    let h : a.n < a.before = omega (arith, c.if-before-n.false) in
    order-low a.row a.before a.n (c.is_set.ensures ∙ c.if-is_set.false) h
