use Rattle.ber_containers.specs.Progress.{Onward, OntoOnward}
use Rattle.ber_containers.proofs.Laws.{cross-ended, cross-no, cross-deep, cross-into, cross-past, cross-cut}
use native.Mathlib.Omega.{arith}
use mathlib.Core.Path.{subst, ◌∙◌}
use Rattle.ber_containers.proofs.cross.Goals as goal

pub returns-then-k-eq0 : goal.returns-then-k-eq0
returns-then-k-eq0 c = record { k_value = cross-deep _ _ _ _ (c.standing.ensures.end_value ∙ c.in-Here.is) c.if-t-eq1.true c.if-k-eq0.true; cross_onward = tt }

pub returns-then-t-eq1 : goal.returns-then-t-eq1
returns-then-t-eq1 c =
    record {
      k_value = cross-into _ _ _ _ (c.standing.ensures.end_value ∙ c.in-Here.is) c.if-t-eq1.true c.if-k-eq0.false;
      cross_onward = subst (Onward _ _) c.in-Here.is c.standing.ensures.onward;
    }

pub returns-in-Ended : goal.returns-in-Ended
returns-in-Ended c =
    record {
      k_value = cross-ended _ _ _ _ (c.standing.ensures.end_value ∙ c.in-Ended.is);
      cross_onward = subst (Onward _ _) c.in-Ended.is c.standing.ensures.onward;
    }

pub returns-in-Refused : goal.returns-in-Refused
returns-in-Refused c = record { k_value = cross-no _ _ _ _ (c.standing.ensures.end_value ∙ c.in-Refused.is); cross_onward = tt }

pub returns-in-Ok : goal.returns-in-Ok
returns-in-Ok c =
    let a = subst (Onward _ _) c.in-Here.is c.standing.ensures.onward in
    let n = subst (OntoOnward _) c.in-Ok.is c.skip.ensures.onto_onward in
    let e = cross-past _ _ _ _ (c.standing.ensures.end_value ∙ c.in-Here.is) c.if-t-eq1.false (c.skip.ensures.t_value ∙ c.in-Ok.is) in
    record { k_value = e; cross_onward = (a.within, omega (arith, a.later, a.opens)) }

pub returns-in-Err : goal.returns-in-Err
returns-in-Err c =
    record {
      k_value = cross-cut _ _ _ _ (c.standing.ensures.end_value ∙ c.in-Here.is) c.if-t-eq1.false (c.skip.ensures.t_value ∙ c.in-Err.is);
      cross_onward = tt;
    }
