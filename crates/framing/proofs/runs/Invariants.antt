use Prim.Native.Nat.{◌-◌}
use lib.ListN.{length}
use Rattle.framing_session.specs.Steps.{Reaches}
use Rattle.framing.proofs.runs.Given as goal

-- The invariant: the call has come to byte i with no event.
abbrev pub invariant-loop-i : goal.invariant-loop-i
invariant-loop-i l = Reaches l.chunk 0 l.initial.s l.initial.store l.i l.s l.store

abbrev pub decreases-loop-i : goal.decreases-loop-i
decreases-loop-i l = length l.chunk - l.i
