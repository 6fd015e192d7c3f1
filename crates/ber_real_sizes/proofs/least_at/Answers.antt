use native.Mathlib.Omega.{arith}
use Rattle.ber_real_sizes.proofs.CodeLaws.{least-low, least-high, least-saved}
use Rattle.ber_real_sizes.proofs.least_at.Goals as goal

pub returns-then-units : goal.returns-then-units
returns-then-units c =
    let the-written-at = c.written_at-written in
    let a = c.args in least-low the-written-at.result a.b a.units the-written-at.ensures.value (omega arith)

pub returns-then-spare-units : goal.returns-then-spare-units
returns-then-spare-units c =
    let the-written-at = c.written_at-written in
    let a = c.args in least-high the-written-at.result a.b a.units the-written-at.ensures.value (omega arith)

pub returns : goal.returns
returns c =
    let the-written-at = c.written_at-written in
    let a = c.args in least-saved the-written-at.result a.b a.units the-written-at.ensures.value (omega arith) (omega arith)
