use Rattle.desk_crosspoints.proofs.Sums.{added-end}
use native.Mathlib.Omega.{arith}
use Rattle.desk_crosspoints.proofs.add_row.Goals as goal

pub returns : goal.returns
returns c = added-end _ _ c.loop-s.s _ c.loop-s.invariant c.requires (omega arith)
