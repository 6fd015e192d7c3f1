use native.Mathlib.Omega.{arith}
use Rattle.glow_steps.proofs.Quick.{opened-definite, opened-open}
use Rattle.glow_walk.proofs.opened.Goals as goal

pub overflow_add-result : goal.overflow_add-result
overflow_add-result c =
    let q = c.requires c.if-l-lt128.true in
    omega arith

pub returns-then-l-lt128 : goal.returns-then-l-lt128
returns-then-l-lt128 c = opened-definite _ _ _ c.if-l-lt128.true

pub returns : goal.returns
returns c = opened-open _ _ _ c.if-l-lt128.false
