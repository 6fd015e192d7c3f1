use Rattle.ber_containers.proofs.Stack.{value-past}
use Rattle.ber_containers.specs.Short.{open_by}
use native.Mathlib.Omega.{arith}
use Rattle.ber_containers.proofs.values.Goals as goal

pub loop-from-init : goal.loop-from-init
loop-from-init c = (λ k f x t. t, omega arith)

pub returns-then-n-ge128 : goal.returns-then-n-ge128
returns-then-n-ge128 c = record { by_index = c.loop-from.invariant.0; lower_bound = c.loop-from.invariant.1 }

pub bounds-s-p : goal.bounds-s-p
bounds-s-p c = let q = c.short-n.ensures (omega arith) in omega (arith, q.inside)

pub returns-then-s-p-ge32 : goal.returns-then-s-p-ge32
returns-then-s-p-ge32 c = record { by_index = c.loop-from.invariant.0; lower_bound = c.loop-from.invariant.1 }

pub overflow_add-next : goal.overflow_add-next
overflow_add-next c = let q = c.short-n.ensures (omega arith) in omega (arith, q.inside)

pub overflow_add-next-in-loop-from : goal.overflow_add-next-in-loop-from
overflow_add-next-in-loop-from c = let q = c.short-n.ensures (omega arith) in omega (arith, q.inside, q.octet)

pub returns-then-s-next : goal.returns-then-s-next
returns-then-s-next c = record { by_index = c.loop-from.invariant.0; lower_bound = c.loop-from.invariant.1 }

pub loop-from-smaller : goal.loop-from-smaller
loop-from-smaller c = let q = c.short-n.ensures (omega arith) in omega (arith, q.inside)

pub loop-from-preserved : goal.loop-from-preserved
loop-from-preserved c =
    let q = c.short-n.ensures (omega arith) in (
      λ k f x t. c.loop-from.invariant.0 k f x (value-past _ _ (open_by f _) q (omega arith) (omega arith) (omega arith) k x t),
      omega (arith, c.loop-from.invariant.1),
    )
