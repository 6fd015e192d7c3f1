use Rattle.glow_steps.proofs.Laws.{plain_other, plain-no, plain_more, plain-kept}
use Rattle.ber_containers.specs.Progress.{OntoOnward}
use native.Mathlib.Omega.{arith}
use mathlib.Core.Path.{subst, ◌∙◌}
use Rattle.glow_steps.proofs.plain.Goals as goal

pub returns-then-not-is_tag : goal.returns-then-not-is_tag
returns-then-not-is_tag c = record { c_value = plain_other _ _ _ _ _ _ _ _ (c.is_tag.ensures ∙ c.if-not-is_tag.true); member_onward = tt }

pub returns-in-Refused : goal.returns-in-Refused
returns-in-Refused c =
    record {
      c_value = plain-no _ _ _ _ _ _ _ _ (c.is_tag.ensures ∙ c.if-not-is_tag.false) (c.read_leaf.ensures.above_value ∙ c.in-Refused.is);
      member_onward = tt;
    }

pub returns-in-Err : goal.returns-in-Err
returns-in-Err c =
    let i = c.is_tag.ensures ∙ c.if-not-is_tag.false in
    record {
      c_value = plain_more _ _ _ _ _ _ _ _ i (c.read_leaf.ensures.above_value ∙ c.in-Kept.is) (c.last.ensures.k_value ∙ c.in-Err.is);
      member_onward = tt;
    }

pub returns-in-Ok : goal.returns-in-Ok
returns-in-Ok c =
    let the-pre = c.requires in
    let i = c.is_tag.ensures ∙ c.if-not-is_tag.false in
    let n = subst (OntoOnward _) c.in-Ok.is c.last.ensures.onto_onward in
    let a = the-pre in
    record {
      c_value = plain-kept _ _ _ _ _ _ _ _ i (c.read_leaf.ensures.above_value ∙ c.in-Kept.is) (c.last.ensures.k_value ∙ c.in-Ok.is);
      member_onward = (a.within, omega (arith, a.later, a.opens));
    }
