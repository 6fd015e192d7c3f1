use Rattle.glow_steps.proofs.Quick.{nested-member}
use native.Mathlib.Omega.{arith}
use mathlib.Core.Path.{refl}
use Rattle.glow_steps.proofs.rule_at.Goals as goal

pub returns-then-k-lt2 : goal.returns-then-k-lt2
returns-then-k-lt2 c = λ h. absurd (h refl)

pub returns-then-l-gt128 : goal.returns-then-l-gt128
returns-then-l-gt128 c = λ h. absurd (h refl)

pub nested-n-requires : goal.nested-n-requires
nested-n-requires c =
    let l = c.if-l-gt128.false in
    (l, c.short-l.ensures (omega (arith, l)))

pub returns-then-n-gt128 : goal.returns-then-n-gt128
returns-then-n-gt128 c = λ h. absurd (h refl)

pub bounds-s-p : goal.bounds-s-p
bounds-s-p c =
    let h = c.nested-n.ensures (omega (arith, c.if-n-gt128.false)) in
    omega (arith, h.pair.inside)

pub overflow_add-p : goal.overflow_add-p
overflow_add-p c =
    let h = c.nested-n.ensures (omega (arith, c.if-n-gt128.false)) in
    omega (arith, h.pair.inside)

pub bounds-s-p-2 : goal.bounds-s-p-2
bounds-s-p-2 c =
    let h = c.nested-n.ensures (omega (arith, c.if-n-gt128.false)) in
    omega (arith, h.pair.inside)

pub returns : goal.returns
returns c = λ r. nested-member _ _ _ _ c.if-k-lt2.false (c.nested-n.ensures (omega (arith, c.if-n-gt128.false))) (omega arith) (c.rule_by.ensures r)
