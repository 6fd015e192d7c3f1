use mathlib.Core.Path.{◌≡◌}
use lib.ListN.{drop}
use Rattle.desk_requests.specs.Request.{marked}
use Rattle.desk_requests.proofs.mark.Given as goal

abbrev pub invariant-loop-s : goal.invariant-loop-s
invariant-loop-s l = marked l.v l.initial.cells l.sources ≡ marked l.v l.cells (drop l.s-index l.sources)
