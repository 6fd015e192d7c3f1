use Rattle.std.proofs.Common.{rules, ◌<◌, ◌↔◌, get_or}
use Rattle.std.specs.Prelude.{IsTrue, EachIndex}
use Rattle.desk_requests.proofs.Laws.{below-is}
use Rattle.desk_requests.proofs.all_below.Goals as goal

pub returns : goal.returns
returns c =
    let e : IsTrue c.all.result ↔ EachIndex c.args.sources.now (λ k. get_or c.args.sources.now k 0 < c.args.n) = search rules in
    below-is c.args.n c.args.sources.now c.all.result e
