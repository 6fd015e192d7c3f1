use Rattle.glow_grammar.proofs.Laws.{least_step, least_other}
use Rattle.glow_grammar.proofs.least_of.Goals as goal

pub returns-then-what-eq-STEP : goal.returns-then-what-eq-STEP
returns-then-what-eq-STEP c = least_step _ c.if-what-eq-STEP.true

pub returns : goal.returns
returns c = least_other _ c.if-what-eq-STEP.false
