use mathlib.Core.Path.{◌≡◌}
use lib.ListN.{drop}
use Rattle.desk_crosspoints.specs.Desk.{all_numbers, path_fits}
use Rattle.desk_crosspoints.proofs.path_fits.Given as goal

abbrev pub invariant-loop-n : goal.invariant-loop-n
invariant-loop-n l = path_fits l.path ≡ all_numbers (drop l.n-index l.path)
