use Rattle.ber_containers.specs.Progress.{Onward}
use Rattle.ber_containers.proofs.Laws.{first_ended, first-no, first-form, first-deep, first-here}
use mathlib.Core.Path.{subst, ◌∙◌}
use Rattle.ber_containers.proofs.first.Goals as goal

pub returns-then-not-agree : goal.returns-then-not-agree
returns-then-not-agree c =
    record { k_value = first-form _ _ _ _ (c.standing.ensures.end_value ∙ c.in-Here.is) (c.agree.ensures ∙ c.if-not-agree.true); found_onward = tt }

pub returns-then-too_deep : goal.returns-then-too_deep
returns-then-too_deep c =
    let f = c.agree.ensures ∙ c.if-not-agree.false in
    record {
      k_value = first-deep _ _ _ _ (c.standing.ensures.end_value ∙ c.in-Here.is) f (c.too_deep.ensures ∙ c.if-too_deep.true);
      found_onward = tt;
    }

pub returns-in-Ended : goal.returns-in-Ended
returns-in-Ended c = record { k_value = first_ended _ _ _ _ (c.standing.ensures.end_value ∙ c.in-Ended.is); found_onward = tt }

pub returns-in-Refused : goal.returns-in-Refused
returns-in-Refused c = record { k_value = first-no _ _ _ _ (c.standing.ensures.end_value ∙ c.in-Refused.is); found_onward = tt }

pub returns-else-too_deep : goal.returns-else-too_deep
returns-else-too_deep c =
    let f = c.agree.ensures ∙ c.if-not-agree.false in
    record {
      k_value = first-here _ _ _ _ (c.standing.ensures.end_value ∙ c.in-Here.is) f (c.too_deep.ensures ∙ c.if-too_deep.false);
      found_onward = subst (Onward _ _) c.in-Here.is c.standing.ensures.onward;
    }
