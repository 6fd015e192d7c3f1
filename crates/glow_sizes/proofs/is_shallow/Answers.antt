use Rattle.glow_sizes.proofs.Places.{shallow-none, shallow-some}
use Rattle.glow_sizes.proofs.is_shallow.Goals as goal

pub returns-then-inside-eq0 : goal.returns-then-inside-eq0
returns-then-inside-eq0 c = shallow-none _ c.args.k c.if-inside-eq0.true

pub returns : goal.returns
returns c = shallow-some _ c.args.k c.if-inside-eq0.false
