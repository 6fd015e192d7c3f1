use Prim.Native.Nat.{◌≤◌}
use mathlib.Core.Path.{◌≡◌}
use mathlib.Core.List.{◌++◌}
use lib.ListN.{take, drop}
use Rattle.desk_rows.specs.Sources.{sources_from}
use Rattle.desk_rows.proofs.list_sources.Given as goal

-- The invariant: those before s, gathered so far, and those from s on, are all.
abbrev pub invariant-loop-s : goal.invariant-loop-s
invariant-loop-s l = (l.n ≤ l.s) × (sources_from 0 l.cells ≡ take l.n l.list ++ sources_from l.s (drop l.s l.cells))
