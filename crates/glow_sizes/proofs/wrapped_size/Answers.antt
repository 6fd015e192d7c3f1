use Rattle.glow_sizes.proofs.Cells.{wrapped-none, wrapped-some}
use Rattle.glow_sizes.proofs.wrapped_size.Goals as goal

pub returns-then-n-eq0 : goal.returns-then-n-eq0
returns-then-n-eq0 c = wrapped-none _ c.if-n-eq0.true

pub returns : goal.returns
returns c = wrapped-some _ _ _ c.if-n-eq0.false c.around.ensures c.around-2.ensures
