use mathlib.Core.Path.{refl}
use native.Mathlib.Omega.{arith}
use Rattle.glow_steps.proofs.Quick.{past-plain, past-in, past_open}
use Rattle.glow_steps.proofs.past.Goals as goal

pub overflow_add-start : goal.overflow_add-start
overflow_add-start c = let q = c.requires in omega (arith, q.1.inside)

pub returns-then-b-lt32 : goal.returns-then-b-lt32
returns-then-b-lt32 c = λ h. absurd (h refl)

pub returns-then-l-ge128 : goal.returns-then-l-ge128
returns-then-l-ge128 c =
    let q = c.requires in
    λ h. let r = c.over.ensures h in
    (past_open _ _ _ _ _ _ q.0 c.if-l-ge128.true c.if-b-lt32.false r.0, omega (arith, r.1))

pub overflow_add-next : goal.overflow_add-next
overflow_add-next c = let q = c.requires in omega (arith, q.1.fits c.if-l-ge128.false)

pub returns-then-s-next : goal.returns-then-s-next
returns-then-s-next c = λ h. absurd (h refl)

pub returns-then-b-lt32-2 : goal.returns-then-b-lt32-2
returns-then-b-lt32-2 c = λ h. (past-plain _ _ _ _ _ _ c.if-l-ge128.false c.if-b-lt32-2.true c.if-s-next.false, omega arith)

pub returns : goal.returns
returns c =
    λ h. let r = c.over-2.ensures h in
    (past-in _ _ _ _ _ _ c.if-l-ge128.false c.if-b-lt32-2.false r.0, omega (arith, r.1))
