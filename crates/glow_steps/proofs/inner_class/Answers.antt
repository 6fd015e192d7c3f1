use Rattle.glow_steps.proofs.Rooted.{class-kids, class-other}
use Rattle.glow_steps.proofs.inner_class.Goals as goal

pub returns-then-what-eq-KIDS : goal.returns-then-what-eq-KIDS
returns-then-what-eq-KIDS c = class-kids _ c.if-what-eq-KIDS.true

pub returns-else-what-eq-KIDS : goal.returns-else-what-eq-KIDS
returns-else-what-eq-KIDS c = class-other _ c.if-what-eq-KIDS.false
