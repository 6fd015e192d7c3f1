use native.Mathlib.Omega.{arith}
use Rattle.ber_containers.proofs.Laws.{skip-cut, skip-next}
use Rattle.ber_containers.proofs.skip.Goals as goal

pub returns-then-s-end : goal.returns-then-s-end
returns-then-s-end c = record { t_value = skip-cut _ _ c.if-s-end.true; onto_onward = tt }

pub returns : goal.returns
returns c = record { t_value = skip-next _ _ c.if-s-end.false; onto_onward = omega arith }
