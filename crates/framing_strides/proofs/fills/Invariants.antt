use Prim.Native.Nat.{◌+◌, ◌-◌, ◌≤◌}
use lib.ListN.{length}
use Rattle.framing_session.specs.Steps.{Reaches}
use Rattle.framing_strides.specs.Strides.{arriving}
use Rattle.framing_strides.proofs.fills.Given as goal

-- The invariant: the call has come to byte i with no event, in the frame, whose content is n bytes long.
abbrev pub invariant-loop-i : goal.invariant-loop-i
invariant-loop-i l = Reaches l.chunk l.from (arriving l.length l.message l.from).session l.initial.store l.i (arriving l.n l.message l.i).session l.store

abbrev pub decreases-loop-i : goal.decreases-loop-i
decreases-loop-i l = lib.ListN.length l.chunk - l.i

-- The same while there is room for what is left before `most`.
abbrev pub invariant-loop-i-2 : goal.invariant-loop-i-2
invariant-loop-i-2 l = record {
  come : Reaches l.chunk l.from (arriving l.length l.message l.from).session l.fn.store l.i (arriving l.n l.message l.i).session l.store;
  inside : l.most ≤ lib.ListN.length l.chunk;
  room : l.n + (l.most - l.i) ≤ 1024;
}

abbrev pub decreases-loop-i-2 : goal.decreases-loop-i-2
decreases-loop-i-2 l = l.most - l.i
