use mathlib.Core.Path.{◌∙◌}
use native.Mathlib.Omega.{arith}
use Rattle.desk_requests.proofs.Totals.{heeded-many, heeded-other}
use Rattle.desk_requests.proofs.total_of.Goals as goal

pub returns-then-f-ne-N_TO_N : goal.returns-then-f-ne-N_TO_N
returns-then-f-ne-N_TO_N c = heeded-other c.args.f _ (λ e. omega arith)

pub returns : goal.returns
returns c =
    let the-count = c.count in
    heeded-many c.args.f _ (omega arith) ∙ the-count.ensures
