use mathlib.Core.Path.{refl}
use Rattle.glow_steps.proofs.rule_by.Goals as goal

pub returns-then-what-eq-NONE : goal.returns-then-what-eq-NONE
returns-then-what-eq-NONE c = λ h. absurd (h refl)

pub returns-then-suits : goal.returns-then-suits
returns-then-suits c = λ h. (c.next_rule-what.ensures c.if-what-eq-NONE.false, c.suits.ensures c.if-suits.true)

pub returns : goal.returns
returns c = λ h. absurd (h refl)
