use Rattle.desk_connections.proofs.Rows.{past-asks}
use Rattle.desk_connections.proofs.asked_at.Goals as goal

pub returns-then-rows-i : goal.returns-then-rows-i
returns-then-rows-i c = past-asks _ c.args.rows.now c.args.i _ c.if-rows-i.true c.nothing.ensures

pub returns : goal.returns
returns c = c.asked_of.ensures
