use Rattle.desk_crosspoints.specs.Crosspoints.{count}
use mathlib.Core.Path.{◌≡◌}
use Prim.Native.Nat.{◌+◌}
use lib.ListN.{drop}
use Rattle.desk_crosspoints.proofs.count_few.Given as goal

abbrev pub invariant-loop-c : goal.invariant-loop-c
invariant-loop-c l = count l.cells ≡ l.n + count (drop l.c-index l.cells)
