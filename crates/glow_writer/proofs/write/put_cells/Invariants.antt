use Rattle.glow_writer.proofs.Putting.{Onward}
use mathlib.Core.Path.{◌≡◌}
use mathlib.Core.List.{[]}
use lib.ListN.{length, get_or}
use Prim.Native.Nat.{◌≤◌}
use Rattle.glow_writer.proofs.write.put_cells.Given as goal

abbrev pub invariant-loop-c : goal.invariant-loop-c
invariant-loop-c l =
    (l.from ≤ l.c) × ((l.c ≤ l.to) × ((length l.out ≡ length l.initial.out) × Onward l.kind l.s (get_or l.rows l.i []) l.from l.to l.initial.out l.at
    l.c l.out l.p))
