use Rattle.glow_steps.proofs.Laws.{item-no, item-done, item-other, item-missing, item-kind, item-element}
use Rattle.ber_containers.specs.Progress.{Onward, FoundOnward}
use native.Mathlib.Omega.{arith}
use mathlib.Core.Path.{subst, ◌∙◌}
use Rattle.glow_steps.proofs.item_at.Goals as goal

pub returns-then-not-is_tag : goal.returns-then-not-is_tag
returns-then-not-is_tag c =
    record {
      which_value = item-other _ _ _ _ _ (c.entering.ensures.k_value ∙ c.in-Here.is) (c.is_tag.ensures ∙ c.if-not-is_tag.true);
      item_onward = tt;
    }

pub returns-then-kind-eq0 : goal.returns-then-kind-eq0
returns-then-kind-eq0 c =
    let h = c.entering.ensures.k_value ∙ c.in-Here.is in
    let i = c.is_tag.ensures ∙ c.if-not-is_tag.false in
    record {
      which_value = item-kind _ _ _ _ _ h i c.less-left.ensures (c.first.ensures.k_value ∙ c.in-Ok.is) c.kind_of-kind.ensures c.if-kind-eq0.true;
      item_onward = tt;
    }

pub returns-in-Refused : goal.returns-in-Refused
returns-in-Refused c = record { which_value = item-no _ _ _ _ _ (c.entering.ensures.k_value ∙ c.in-Refused.is); item_onward = tt }

pub returns-in-Ended : goal.returns-in-Ended
returns-in-Ended c =
    record {
      which_value = item-done _ _ _ _ _ (c.entering.ensures.k_value ∙ c.in-Ended.is);
      item_onward = subst (Onward _ _) c.in-Ended.is c.entering.ensures.onward;
    }

pub returns-in-Err : goal.returns-in-Err
returns-in-Err c =
    let h = c.entering.ensures.k_value ∙ c.in-Here.is in
    let i = c.is_tag.ensures ∙ c.if-not-is_tag.false in
    record { which_value = item-missing _ _ _ _ _ h i c.less-left.ensures (c.first.ensures.k_value ∙ c.in-Err.is); item_onward = tt }

pub returns-else-kind-eq0 : goal.returns-else-kind-eq0
returns-else-kind-eq0 c =
    let h = c.entering.ensures.k_value ∙ c.in-Here.is in
    let i = c.is_tag.ensures ∙ c.if-not-is_tag.false in
    let a = subst (Onward _ _) c.in-Here.is c.entering.ensures.onward in
    let b = subst (FoundOnward _ _) c.in-Ok.is c.first.ensures.found_onward in
    record {
      which_value = item-element _ _ _ _ _ h i c.less-left.ensures (c.first.ensures.k_value ∙ c.in-Ok.is) c.kind_of-kind.ensures
          c.if-kind-eq0.false;
      item_onward = (omega arith, omega arith);
    }
