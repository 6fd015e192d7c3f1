use native.Mathlib.Omega.{arith}
use Rattle.desk_requests.proofs.Laws.{replaces-not, replaces-if}
use Rattle.desk_requests.proofs.replaces.Goals as goal

pub returns-then-f-ge-N_TO_N : goal.returns-then-f-ge-N_TO_N
returns-then-f-ge-N_TO_N c =
    let the-args = c.args in
    replaces-not the-args.f.kind the-args.named (omega arith)

pub returns : goal.returns
returns c =
    let the-args = c.args in
    replaces-if the-args.f.kind the-args.named (omega arith)
