use Rattle.desk_requests.proofs.Answers.{many-says, many-list}
use native.Mathlib.Omega.{arith}
use Rattle.desk_requests.proofs.is_many.Goals as goal

pub returns-then-f-eq-N_TO_N : goal.returns-then-f-eq-N_TO_N
returns-then-f-eq-N_TO_N c =
    let the-args = c.args in
    let the-most-each = c.most_each in
    many-says the-args.f the-args.set the-args.ones _ (omega arith) the-most-each.ensures

pub returns : goal.returns
returns c =
    let the-args = c.args in
    many-list the-args.f the-args.set the-args.ones (λ e. omega arith)
