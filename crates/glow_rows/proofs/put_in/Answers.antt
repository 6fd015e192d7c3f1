use Rattle.glow_rows.proofs.Words.{put-row, put-row-past}
use Rattle.glow_rows.proofs.put_in.Goals as goal

pub returns-then-c-lt16 : goal.returns-then-c-lt16
returns-then-c-lt16 c = put-row _ _ _ c.if-c-lt16.true

pub returns-else-c-lt16 : goal.returns-else-c-lt16
returns-else-c-lt16 c = put-row-past _ _ _ c.if-c-lt16.false
