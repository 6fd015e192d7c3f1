use mathlib.Core.Path.{◌∙◌}
use native.Mathlib.Omega.{arith}
use Rattle.desk_requests.proofs.Totals.{heeded-many, heeded-other}
use Rattle.desk_requests.proofs.total_after.Goals as goal

pub returns-then-f-ne-N_TO_N : goal.returns-then-f-ne-N_TO_N
returns-then-f-ne-N_TO_N c = heeded-other c.args.f _ (λ e. omega arith)

pub returns-then-total-before : goal.returns-then-total-before
returns-then-total-before c = heeded-many c.args.f _ (omega arith) ∙ omega arith

pub overflow_add-result : goal.overflow_add-result
overflow_add-result c = omega arith

pub returns : goal.returns
returns c = heeded-many c.args.f _ (omega arith)
