use Rattle.ber_containers.proofs.Laws.{last-ended, last-no, last-deep, last-here}
use Rattle.ber_containers.specs.Progress.{Onward}
use mathlib.Core.Path.{subst, ◌∙◌}
use Rattle.ber_containers.proofs.last.Goals as goal

pub returns-then-z : goal.returns-then-z
returns-then-z c = let z = c.shut-z.ensures c.if-z.true in record { k_value = last-ended _ _ _ _ z.0; onto_onward = z.1 }

pub returns-then-too_deep : goal.returns-then-too_deep
returns-then-too_deep c =
    record { k_value = last-deep _ _ _ _ (c.standing.ensures.end_value ∙ c.in-Here.is) (c.too_deep.ensures ∙ c.if-too_deep.true); onto_onward = tt }

pub returns-in-Ended : goal.returns-in-Ended
returns-in-Ended c =
    record {
      k_value = last-ended _ _ _ _ (c.standing.ensures.end_value ∙ c.in-Ended.is);
      onto_onward = subst (Onward _ _) c.in-Ended.is c.standing.ensures.onward;
    }

pub returns-in-Refused : goal.returns-in-Refused
returns-in-Refused c = record { k_value = last-no _ _ _ _ (c.standing.ensures.end_value ∙ c.in-Refused.is); onto_onward = tt }

pub returns-else-too_deep : goal.returns-else-too_deep
returns-else-too_deep c =
    record { k_value = last-here _ _ _ _ (c.standing.ensures.end_value ∙ c.in-Here.is) (c.too_deep.ensures ∙ c.if-too_deep.false); onto_onward = tt }
