use Rattle.desk_crosspoints.specs.Crosspoints.{rows_fit}
use mathlib.Core.Path.{◌≡◌}
use Rattle.std.specs.Prelude.{true}
use Rattle.desk_crosspoints.proofs.rows_fit.Given as goal

abbrev pub invariant-loop-t : goal.invariant-loop-t
invariant-loop-t l = rows_fit l.w l.most l.cells l.t ≡ true
