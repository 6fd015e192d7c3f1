use Rattle.desk_crosspoints.proofs.Sums.{max-bit, most-more, most-end}
use mathlib.Core.Path.{ap, ◌∙◌}
use Prim.Native.Nat.{ℕ}
use lib.Dec.{leb}
use native.Mathlib.Omega.{arith}
use Rattle.desk_crosspoints.proofs.all_bits.Goals as goal

pub loop-c-preserved : goal.loop-c-preserved
loop-c-preserved c =
    let e = ap (λ (x : ℕ). leb x 1) c.max-most.ensures ∙ max-bit _ _ in c.loop-c.invariant ∙ most-more _ c.loop-c.c-index c.loop-c.most _ (omega arith) e

pub returns : goal.returns
returns c = c.loop-c.invariant ∙ most-end _ c.loop-c.c-index c.loop-c.most (omega arith)
