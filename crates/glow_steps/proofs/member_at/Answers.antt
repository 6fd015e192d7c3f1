use mathlib.Core.Path.{subst, ◌∙◌}
use Rattle.ber_containers.specs.Progress.{Onward}
use Rattle.glow_steps.proofs.Laws.{member-no, member-due, member-done, member-class, member-order, member-ruled}
use Rattle.glow_steps.proofs.member_at.Goals as goal

pub returns-then-is_due : goal.returns-then-is_due
returns-then-is_due c =
    record {
      before_value = member-due _ _ _ _ _ _ _ (c.entering.ensures.k_value ∙ c.in-Ended.is) (c.is_due.ensures ∙ c.if-is_due.true);
      member_onward = tt;
    }

pub returns-then-t-ne-CONTEXT : goal.returns-then-t-ne-CONTEXT
returns-then-t-ne-CONTEXT c =
    record { before_value = member-class _ _ _ _ _ _ _ (c.entering.ensures.k_value ∙ c.in-Here.is) c.if-t-ne-CONTEXT.true; member_onward = tt }

pub ruled-requires : goal.ruled-requires
ruled-requires c = subst (Onward _ _) c.in-Here.is c.entering.ensures.onward

pub returns-then-in_order : goal.returns-then-in_order
returns-then-in_order c =
    record {
      before_value = member-ruled _ _ _ _ _ _ _ (c.entering.ensures.k_value ∙ c.in-Here.is) c.if-t-ne-CONTEXT.false (c.in_order.ensures ∙ c.if-in_order.true)
          ∙ rw c.less.ensures at c.ruled.ensures.number_value;
      member_onward = c.ruled.ensures.member_onward;
    }

pub returns-in-Refused : goal.returns-in-Refused
returns-in-Refused c = record { before_value = member-no _ _ _ _ _ _ _ (c.entering.ensures.k_value ∙ c.in-Refused.is); member_onward = tt }

pub returns-else-is_due : goal.returns-else-is_due
returns-else-is_due c =
    record {
      before_value = member-done _ _ _ _ _ _ _ (c.entering.ensures.k_value ∙ c.in-Ended.is) (c.is_due.ensures ∙ c.if-is_due.false);
      member_onward = subst (Onward _ _) c.in-Ended.is c.entering.ensures.onward;
    }

pub returns-else-in_order : goal.returns-else-in_order
returns-else-in_order c =
    record {
      before_value = member-order _ _ _ _ _ _ _ (c.entering.ensures.k_value ∙ c.in-Here.is) c.if-t-ne-CONTEXT.false
          (c.in_order.ensures ∙ c.if-in_order.false);
      member_onward = tt;
    }
