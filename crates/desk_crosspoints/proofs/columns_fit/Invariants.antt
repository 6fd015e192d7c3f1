use Rattle.desk_crosspoints.proofs.Sums.{Held}
use Rattle.desk_crosspoints.proofs.columns_fit.Given as goal

abbrev pub invariant-loop-target : goal.invariant-loop-target
invariant-loop-target l = Held l.w l.cells l.target l.sums
