use lib.ListN.{length}
use Prim.Native.Nat.{◌+◌, ◌-◌, ◌*◌}
use Rattle.ber_containers.specs.Short.{open_by}
use Rattle.ber_containers.proofs.Stack.{Going}
use Rattle.ber_containers.proofs.nests.Given as goal

abbrev pub invariant-loop-here : goal.invariant-loop-here
invariant-loop-here l = Going l.s l.k (open_by l.definite l.end) l.from l.around l.d l.p l.here

abbrev pub decreases-loop-here : goal.decreases-loop-here
decreases-loop-here l = 2 * (length l.s - l.p) + l.d
