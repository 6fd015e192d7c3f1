use Rattle.glow_steps.proofs.Laws.{ruled-over, ruled-over-no, ruled-form, ruled-again, ruled-listed, rule-small, member-later}
use Rattle.ber_containers.specs.Progress.{OntoOnward}
use native.Mathlib.Omega.{arith}
use mathlib.Core.Path.{sym, subst, ◌∙◌}
use Rattle.glow_steps.proofs.ruled.Goals as goal

pub returns-in-Err : goal.returns-in-Err
returns-in-Err c =
    record {
      number_value = ruled-over-no _ _ _ _ _ _ _ _ (c.rule_of-what.ensures ∙ c.if-what-eq-NONE.true) (c.passed.ensures.k_value ∙ c.in-Err.is);
      member_onward = tt;
    }

pub returns-in-Ok : goal.returns-in-Ok
returns-in-Ok c =
    let the-pre = c.requires in
    let a = the-pre in
    let n = subst (OntoOnward _) c.in-Ok.is (c.passed.ensures.onto_onward a.opens) in
    record {
      number_value = rw (← c.after_other-after.ensures) (ruled-over _ _ _ _ _ _ _ _ (c.rule_of-what.ensures ∙ c.if-what-eq-NONE.true)
          (c.passed.ensures.k_value ∙ c.in-Ok.is));
      member_onward = (a.within, omega (arith, a.later));
    }

pub returns-then-t-ne1 : goal.returns-then-t-ne1
returns-then-t-ne1 c =
    record {
      number_value = ruled-form _ _ _ _ _ _ _ _ (λ e. c.if-what-eq-NONE.false (sym c.rule_of-what.ensures ∙ e)) c.if-t-ne1.true;
      member_onward = tt;
    }

pub is_again-requires : goal.is_again-requires
is_again-requires c = rule-small _ _ (λ e. c.if-what-eq-NONE.false (sym c.rule_of-what.ensures ∙ e))

pub returns-then-is_again : goal.returns-then-is_again
returns-then-is_again c =
    record {
      number_value = ruled-again _ _ _ _ _ _ _ _ (λ e. c.if-what-eq-NONE.false (sym c.rule_of-what.ensures ∙ e)) c.if-t-ne1.false
          (c.is_again.ensures ∙ c.if-is_again.true);
      member_onward = tt;
    }

pub returns : goal.returns
returns c =
    let the-pre = c.requires in
    let a = the-pre in
    let n = rule-small _ _ (λ e. c.if-what-eq-NONE.false (sym c.rule_of-what.ensures ∙ e)) in record {
      number_value = ruled-listed _ _ _ _ _ _ _ _ (λ e. c.if-what-eq-NONE.false (sym c.rule_of-what.ensures ∙ e)) c.if-t-ne1.false
          (c.is_again.ensures ∙ c.if-is_again.false)
          ∙ rw (c.rule_of-what.ensures, c.after_listed.ensures.n_value n, c.column_of.ensures.n_value n) c.listed.ensures.c_value;
      member_onward = member-later _ _ _ c.listed.result (omega (arith, a.later)) c.listed.ensures.member_onward;
    }
