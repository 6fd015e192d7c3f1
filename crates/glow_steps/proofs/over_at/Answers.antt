use mathlib.Core.Path.{refl}
use native.Mathlib.Omega.{arith}
use Rattle.glow_steps.proofs.Quick.{over-told}
use Rattle.glow_steps.proofs.over_at.Goals as goal

pub returns-then-k-eq0 : goal.returns-then-k-eq0
returns-then-k-eq0 c = λ h. absurd (h refl)

pub returns-then-l-gt128 : goal.returns-then-l-gt128
returns-then-l-gt128 c = λ h. absurd (h refl)

pub bounds-s-p : goal.bounds-s-p
bounds-s-p c =
    let q = c.short-l.ensures (omega (arith, c.if-l-gt128.false)) in
    omega (arith, q.inside)

pub bounds-s-p-then-is_unlisted : goal.bounds-s-p-then-is_unlisted
bounds-s-p-then-is_unlisted c =
    let q = c.short-l.ensures (omega (arith, c.if-l-gt128.false)) in
    omega (arith, q.inside)

pub past-requires : goal.past-requires
past-requires c =
    let l = c.if-l-gt128.false in
    (omega (arith, l), c.short-l.ensures (omega (arith, l)))

pub returns-then-is_unlisted : goal.returns-then-is_unlisted
returns-then-is_unlisted c =
    let l = c.if-l-gt128.false in
    λ h. let r = c.past.ensures h in
    over-told _ _ _ _ _ _ c.if-k-eq0.false (c.short-l.ensures (omega (arith, l))) (c.is_unlisted.ensures c.if-is_unlisted.true) r.0 r.1

pub returns : goal.returns
returns c = λ h. absurd (h refl)
