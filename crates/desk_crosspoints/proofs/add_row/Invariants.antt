use Rattle.desk_crosspoints.proofs.Sums.{Added}
use Rattle.desk_crosspoints.proofs.add_row.Given as goal

abbrev pub invariant-loop-s : goal.invariant-loop-s
invariant-loop-s l = Added l.initial.sums l.row l.s l.sums
