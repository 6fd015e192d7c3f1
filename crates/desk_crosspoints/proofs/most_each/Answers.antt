use native.Mathlib.Omega.{arith}
use mathlib.Core.Path.{sym, ◌∙◌}
use Rattle.desk_crosspoints.proofs.Laws.{each-many, each-one, limit-unwraps}
use Rattle.desk_crosspoints.proofs.most_each.Goals as goal

pub returns-then-f-eq-N_TO_N : goal.returns-then-f-eq-N_TO_N
returns-then-f-eq-N_TO_N c = each-many _ (omega arith) ∙ limit-unwraps c.args.f.each c.args.f.sources ∙ sym c.unwrap_or.ensures

pub returns : goal.returns
returns c = each-one _ (λ e. omega arith)
