use Rattle.glow_steps.proofs.Quick.{nested-definite, nested-open}
use native.Mathlib.Omega.{arith}
use Rattle.glow_steps.proofs.nested.Goals as goal

pub overflow_add-at : goal.overflow_add-at
overflow_add-at c = omega (arith, c.requires.1.inside)

pub returns-then-short-ne128 : goal.returns-then-short-ne128
returns-then-short-ne128 c = λ h. absurd (omega arith)

pub returns-then-l-eq128 : goal.returns-then-l-eq128
returns-then-l-eq128 c = λ h. nested-open _ _ _ c.requires.1 (c.short.ensures (omega (arith, c.if-short-ne128.false))) c.if-l-eq128.true c.if-short-ne128.false

pub overflow_add-at-2 : goal.overflow_add-at-2
overflow_add-at-2 c = omega (arith, c.requires.1.fits (omega (arith, c.requires.0, c.if-l-eq128.false)))

pub returns-then-n-ge128 : goal.returns-then-n-ge128
returns-then-n-ge128 c = λ h. absurd (omega arith)

pub returns-then-n-l : goal.returns-then-n-l
returns-then-n-l c = λ h. absurd (omega arith)

pub returns : goal.returns
returns c =
    λ h.
    let b = c.short-n.ensures (omega (arith, c.if-n-ge128.false)) in
    nested-definite _ _ _ c.requires.1 b c.if-n-l.false (omega (arith, c.requires.0, c.if-l-eq128.false))
