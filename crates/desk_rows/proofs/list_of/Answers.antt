use Rattle.desk_rows.proofs.Rows.{list-none, list-some}
use Rattle.desk_rows.proofs.list_of.Goals as goal

pub returns-then-len-eq0 : goal.returns-then-len-eq0
returns-then-len-eq0 c = list-none _ _ c.if-len-eq0.true

pub returns : goal.returns
returns c = list-some _ _ _ _ c.if-len-eq0.false c.index.ensures c.index-2.ensures
