use mathlib.Core.Path.{sym, ◌∙◌}
use mathlib.Core.Bool.{true≢false}
use Rattle.glow_steps.proofs.Quick.{unlisted-is}
use Rattle.glow_steps.proofs.is_unlisted.Goals as goal

pub returns-then-b-ne2 : goal.returns-then-b-ne2
returns-then-b-ne2 c = λ e. absurd (true≢false (sym e))

pub returns-then-rule_of-ne-NONE : goal.returns-then-rule_of-ne-NONE
returns-then-rule_of-ne-NONE c = λ e. absurd (true≢false (sym e))

pub returns : goal.returns
returns c = λ e. unlisted-is _ _ _ c.if-b-ne2.false c.wide-n.ensures.value c.rule_of.ensures c.if-rule_of-ne-NONE.false (c.in_order.ensures ∙ e)
