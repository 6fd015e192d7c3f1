use native.Mathlib.Omega.{arith}
use Rattle.ber_tags.proofs.Laws.{stop-bound, stop-length}
use Rattle.ber_tags.proofs.stop_of.Goals as goal

pub returns-then-bound-s : goal.returns-then-bound-s
returns-then-bound-s c = record { value = stop-bound _ _ c.if-bound-s.true; upper_bound = c.if-bound-s.true }

pub returns-else-bound-s : goal.returns-else-bound-s
returns-else-bound-s c = record { value = stop-length _ _ c.if-bound-s.false; upper_bound = omega arith }
