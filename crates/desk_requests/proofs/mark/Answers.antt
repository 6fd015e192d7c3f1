use native.Mathlib.Omega.{arith}
use mathlib.Core.Path.{sym, ◌∙◌}
use Rattle.desk_requests.proofs.Laws.{marked-end, marked_more}
use Rattle.desk_requests.proofs.mark.Goals as goal

pub loop-s-preserved : goal.loop-s-preserved
loop-s-preserved c = c.loop-s.invariant ∙ marked_more _ _ _ _ c.loop-s.s-index (omega arith) c.put.ensures

pub returns : goal.returns
returns c = sym (c.loop-s.invariant ∙ marked-end _ _ _ c.loop-s.s-index (omega arith))
