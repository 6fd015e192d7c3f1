use borrow.Author.Tests.{eq-eqb, ne_eqb}
use Rattle.framing_session.specs.Steps.{past_fault}
use Rattle.framing_steps.proofs.faulted.Goals as goal

pub returns-then-b-eq-BOF : goal.returns-then-b-eq-BOF
unfolding past_fault
returns-then-b-eq-BOF c = simp (eq-eqb _ _ c.if-b-eq-BOF.true) c.refuses.ensures

pub returns-then-b-eq-EOF : goal.returns-then-b-eq-EOF
unfolding past_fault
returns-then-b-eq-EOF c = simp (ne_eqb _ _ c.if-b-eq-BOF.false, eq-eqb _ _ c.if-b-eq-EOF.true) c.refuses-then-b-eq-EOF.ensures

pub returns : goal.returns
unfolding past_fault
returns c = simp (ne_eqb _ _ c.if-b-eq-BOF.false, ne_eqb _ _ c.if-b-eq-EOF.false) c.goes.ensures
