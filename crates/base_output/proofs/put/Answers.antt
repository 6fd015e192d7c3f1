use native.Mathlib.Omega.{arith}
use Rattle.base_output.proofs.Laws.{wrote-byte, wrote-past}
use Rattle.base_output.proofs.put.Goals as goal

pub returns-then-at-out : goal.returns-then-at-out
returns-then-at-out c = record { b_value = λ h. wrote-byte _ _ _; upper_bound = omega arith }

pub returns-then-at-lt18446744073709551615 : goal.returns-then-at-lt18446744073709551615
returns-then-at-lt18446744073709551615 c = record { b_value = λ h. wrote-past _ _ _ (omega arith); upper_bound = omega arith }

pub returns : goal.returns
returns c = record { b_value = λ h. absurd (omega arith); upper_bound = omega arith }
