use Rattle.glow_steps.proofs.Rooted.{number-body, number-kids, number-links}
use Rattle.glow_steps.proofs.inner_number.Goals as goal

pub returns-then-what-eq-BODY : goal.returns-then-what-eq-BODY
returns-then-what-eq-BODY c = number-body _ c.if-what-eq-BODY.true

pub returns-then-what-eq-KIDS : goal.returns-then-what-eq-KIDS
returns-then-what-eq-KIDS c = number-kids _ c.if-what-eq-BODY.false c.if-what-eq-KIDS.true

pub returns-else-what-eq-KIDS : goal.returns-else-what-eq-KIDS
returns-else-what-eq-KIDS c = number-links _ c.if-what-eq-BODY.false c.if-what-eq-KIDS.false
