use Rattle.ber_containers.specs.Progress.{Onward}
use Rattle.ber_containers.proofs.Laws.{enter-ended, enter-no, enter-deep, enter-here}
use mathlib.Core.Path.{subst, ◌∙◌}
use Rattle.ber_containers.proofs.entering.Goals as goal

pub returns-then-too_deep : goal.returns-then-too_deep
returns-then-too_deep c =
    record { k_value = enter-deep _ _ _ _ (c.standing.ensures.end_value ∙ c.in-Here.is) (c.too_deep.ensures ∙ c.if-too_deep.true); onward = tt }

pub returns-in-Ended : goal.returns-in-Ended
returns-in-Ended c =
    record {
      k_value = enter-ended _ _ _ _ (c.standing.ensures.end_value ∙ c.in-Ended.is);
      onward = subst (Onward _ _) c.in-Ended.is c.standing.ensures.onward;
    }

pub returns-in-Refused : goal.returns-in-Refused
returns-in-Refused c = record { k_value = enter-no _ _ _ _ (c.standing.ensures.end_value ∙ c.in-Refused.is); onward = tt }

pub returns-else-too_deep : goal.returns-else-too_deep
returns-else-too_deep c =
    record {
      k_value = enter-here _ _ _ _ (c.standing.ensures.end_value ∙ c.in-Here.is) (c.too_deep.ensures ∙ c.if-too_deep.false);
      onward = subst (Onward _ _) c.in-Here.is c.standing.ensures.onward;
    }
