use Rattle.desk_crosspoints.specs.Crosspoints.{all_bits}
use Rattle.base_choices.specs.Choices.{both}
use mathlib.Core.Path.{◌≡◌}
use lib.Dec.{leb}
use lib.ListN.{drop}
use Rattle.desk_crosspoints.proofs.all_bits.Given as goal

abbrev pub invariant-loop-c : goal.invariant-loop-c
invariant-loop-c l = all_bits l.cells ≡ both (leb l.most 1) (all_bits (drop l.c-index l.cells))
