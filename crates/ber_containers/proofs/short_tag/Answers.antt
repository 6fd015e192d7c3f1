use Rattle.ber_containers.proofs.Quick.{tag-definite, tag_open}
use native.Mathlib.Omega.{arith}
use Rattle.ber_containers.proofs.short_tag.Goals as goal

pub overflow_add-result : goal.overflow_add-result
overflow_add-result c =
    let f = c.requires c.if-n-lt128.true in
    omega arith

pub returns-then-n-lt128 : goal.returns-then-n-lt128
returns-then-n-lt128 c = tag-definite _ _ _ _ c.from.ensures c.from-then-n-lt128.ensures c.from-then-n-lt128-2.ensures c.if-n-lt128.true

pub returns : goal.returns
returns c = tag_open _ _ _ _ c.from-2.ensures c.from-3.ensures c.from-4.ensures c.if-n-lt128.false
