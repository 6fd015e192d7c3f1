use Rattle.ber_containers.proofs.Laws.{closing-definite, closing_end, closing-cut, closing-one, closing-two}
use native.Mathlib.Omega.{arith}
use Rattle.ber_containers.proofs.closing.Goals as goal

pub returns-then-definite-eq1 : goal.returns-then-definite-eq1
returns-then-definite-eq1 c = record { end_value = closing-definite _ _ _ c.if-definite-eq1.true; onward = tt }

pub returns-then-q-end : goal.returns-then-q-end
returns-then-q-end c = record { end_value = closing_end _ _ _ c.if-definite-eq1.false c.if-q-end.true; onward = tt }

pub returns-then-s-q : goal.returns-then-s-q
returns-then-s-q c = record { end_value = closing-cut _ _ _ c.if-definite-eq1.false c.if-q-end.false c.if-s-q.true; onward = tt }

pub returns-then-s-q-eq0 : goal.returns-then-s-q-eq0
returns-then-s-q-eq0 c =
    record { end_value = closing-two _ _ _ c.if-definite-eq1.false c.if-q-end.false c.if-s-q.false c.if-s-q-eq0.true; onward = omega arith }

pub returns : goal.returns
returns c = record { end_value = closing-one _ _ _ c.if-definite-eq1.false c.if-q-end.false c.if-s-q.false c.if-s-q-eq0.false; onward = tt }
