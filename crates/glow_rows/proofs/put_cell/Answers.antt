use Rattle.glow_rows.proofs.Cells.{put-row-in, put-past}
use Rattle.glow_rows.proofs.put_cell.Goals as goal

pub returns-then-i-table : goal.returns-then-i-table
returns-then-i-table c = put-row-in _ _ _ _ _ c.put_in.ensures

pub returns-else-i-table : goal.returns-else-i-table
returns-else-i-table c = put-past _ _ _ _ c.if-i-table.false
