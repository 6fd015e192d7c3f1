use mathlib.Core.Path.{refl, sym, ◌∙◌}
use Rattle.glow_steps.proofs.Laws.{rule-small}
use Rattle.glow_steps.proofs.Quick.{next-is}
use Rattle.glow_steps.proofs.next_rule.Goals as goal

pub returns-then-b-ne5 : goal.returns-then-b-ne5
returns-then-b-ne5 c = λ h. absurd (h refl)

pub returns-then-what-eq-NONE : goal.returns-then-what-eq-NONE
returns-then-what-eq-NONE c = λ h. absurd (h refl)

pub returns-then-not-in_order : goal.returns-then-not-in_order
returns-then-not-in_order c = λ h. absurd (h refl)

pub is_again-requires : goal.is_again-requires
is_again-requires c = rule-small _ _ (λ e. c.if-what-eq-NONE.false (sym c.rule_of-what.ensures ∙ e))

pub returns-then-is_again : goal.returns-then-is_again
returns-then-is_again c = λ h. absurd (h refl)

pub returns : goal.returns
returns c =
    λ h. next-is _ _ _ c.if-b-ne5.false c.wide-n.ensures.value c.rule_of-what.ensures
    (c.in_order.ensures ∙ c.if-not-in_order.false) (c.is_again.ensures ∙ c.if-is_again.false)
