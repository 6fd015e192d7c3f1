use Rattle.std.specs.Prelude.{Result}
use Rattle.ber_containers.specs.declared.No.{No}
use Rattle.ber_containers.specs.Passing.{Through}
use Rattle.ber_containers.specs.Short.{open_by}
use lib.ListN.{length}
use Prim.Native.Nat.{ℕ, ◌-◌, ◌≤◌}
use Rattle.ber_containers.proofs.values.Given as goal

abbrev pub invariant-loop-from : goal.invariant-loop-from
invariant-loop-from l =
    ((k definite : ℕ) (x : Result ℕ No) → Through l.s k (open_by definite l.end) l.p x → Through l.s k (open_by definite l.end) l.from x) × (l.from ≤ l.p)

abbrev pub decreases-loop-from : goal.decreases-loop-from
decreases-loop-from l = length l.s - l.p
