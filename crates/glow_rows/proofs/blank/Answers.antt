use mathlib.Core.Path.{ap}
use lib.ListN.{set}
use Rattle.glow_rows.specs.Row.{blanked}
use Rattle.glow_rows.proofs.Cells.{blank-past}
use Rattle.glow_rows.proofs.blank.Goals as goal

pub returns-then-i-table : goal.returns-then-i-table
unfolding blanked
returns-then-i-table c = ap (set _ _) c.begun.ensures

pub returns-else-i-table : goal.returns-else-i-table
returns-else-i-table c = blank-past _ _ _ _ c.if-i-table.false
