use Rattle.glow_steps.proofs.Laws.{listed-missing, listed-inner, listed_plain}
use Rattle.ber_containers.specs.Progress.{FoundOnward}
use mathlib.Core.Path.{subst, ◌∙◌}
use Rattle.glow_steps.proofs.listed.Goals as goal

pub returns-then-what-ge-BODY : goal.returns-then-what-ge-BODY
returns-then-what-ge-BODY c =
    let a = subst (FoundOnward _ _) c.in-Ok.is c.first.ensures.found_onward in record {
      c_value = listed-inner _ _ _ _ _ _ _ (c.first.ensures.k_value ∙ c.in-Ok.is) c.if-what-ge-BODY.true ∙ c.inner.ensures.after_value;
      member_onward = c.inner.ensures.inner_onward _ _
          a.within a.later;
    }

pub plain-requires : goal.plain-requires
plain-requires c = subst (FoundOnward _ _) c.in-Ok.is c.first.ensures.found_onward

pub returns-in-Err : goal.returns-in-Err
returns-in-Err c = record { c_value = listed-missing _ _ _ _ _ _ _ (c.first.ensures.k_value ∙ c.in-Err.is); member_onward = tt }

pub returns-else-what-ge-BODY : goal.returns-else-what-ge-BODY
returns-else-what-ge-BODY c =
    record {
      c_value = listed_plain _ _ _ _ _ _ _ (c.first.ensures.k_value ∙ c.in-Ok.is) c.if-what-ge-BODY.false ∙ c.plain.ensures.c_value;
      member_onward = c.plain.ensures.member_onward;
    }
