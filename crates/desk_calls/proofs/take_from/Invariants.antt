use lib.ListN.{length}
use mathlib.Core.Path.{◌≡◌}
use Rattle.desk_crosspoints.specs.Crosspoints.{taken_from}
use Rattle.desk_calls.proofs.take_from.Given as goal

abbrev pub invariant-loop-t : goal.invariant-loop-t
invariant-loop-t l = (l.cells ≡ taken_from l.w l.initial.cells l.s l.t) × (length l.cells ≡ length l.initial.cells)
