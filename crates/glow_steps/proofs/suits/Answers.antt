use mathlib.Core.Path.{◌∙◌}
use borrow.Author.Tests.{ltb-true, eqb-true, eq-eqb, ne_eqb}
use Rattle.glow_steps.proofs.Quick.{suits-plain, suits-body, suits-list}
use borrow.Author.Rules.{rules}
use Rattle.glow_steps.proofs.suits.Goals as goal

pub returns-then-b-lt31 : goal.returns-then-b-lt31
returns-then-b-lt31 c = λ e. suits-plain _ _ _ c.if-what-lt-BODY.true c.if-b-lt31.true (ltb-true _ _ e)

pub returns-then-what-lt-BODY : goal.returns-then-what-lt-BODY
returns-then-what-lt-BODY c = λ e. search rules

pub returns-then-what-eq-BODY : goal.returns-then-what-eq-BODY
returns-then-what-eq-BODY c = λ e. suits-body _ _ _ c.if-what-eq-BODY.true (eqb-true _ _ e)

pub returns-then-what-eq-KIDS : goal.returns-then-what-eq-KIDS
returns-then-what-eq-KIDS c = λ e. suits-list _ _ _ c.if-what-lt-BODY.false c.if-what-eq-BODY.false (eqb-true _ _ e ∙ rw (eq-eqb _ _ c.if-what-eq-KIDS.true))

pub returns : goal.returns
returns c = λ e. suits-list _ _ _ c.if-what-lt-BODY.false c.if-what-eq-BODY.false (eqb-true _ _ e ∙ rw (ne_eqb _ _ c.if-what-eq-KIDS.false))
