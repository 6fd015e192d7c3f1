use Rattle.std.specs.Prelude.{ℕ, Result}
use Rattle.ber_containers.specs.declared.No.{No}
use Prim.Native.Nat.{◌≤◌, ◌-◌}
use lib.ListN.{length}
use Rattle.ber_containers.specs.Passing.{Through}
use Rattle.ber_containers.proofs.+through.Given as goal

abbrev pub decreases-through : goal.decreases-through
decreases-through l = length l.s.now - l.from

abbrev pub invariant-loop-next : goal.invariant-loop-next
invariant-loop-next l = (l.from ≤ l.p) × ((x : Result ℕ No) → Through l.s l.k l.o l.p x → Through l.s l.k l.o l.from x)

abbrev pub decreases-loop-next : goal.decreases-loop-next
decreases-loop-next l = length l.s - l.p
