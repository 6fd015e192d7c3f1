use lib.Seq.{length-take-le}
use Rattle.desk_crosspoints.proofs.Counts.{clear-take}
use Rattle.desk_crosspoints.specs.Figures.{side}
use Rattle.desk_crosspoints.specs.Crosspoints.{clear}
use mathlib.Core.Path.{sym}
use native.Mathlib.Omega.{arith}
use Rattle.desk_crosspoints.proofs.sources_fit.Goals as goal

pub slice_bounds-columns_fit-end : goal.slice_bounds-columns_fit-end
slice_bounds-columns_fit-end c = sym (length-take-le c.args.w _ (omega (arith, c.requires.w_le_side)))

pub columns_fit-requires : goal.columns_fit-requires
unfolding clear
columns_fit-requires c = record { cells_len = c.requires.cells_len; sums_value = clear-take c.args.w side c.requires.w_le_side }
