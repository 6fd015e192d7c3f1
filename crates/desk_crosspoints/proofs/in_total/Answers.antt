use Rattle.desk_crosspoints.proofs.Laws.{total-absent, total-given}
use Rattle.desk_crosspoints.proofs.in_total.Goals as goal

pub returns-in-None : goal.returns-in-None
returns-in-None c =
    let the-args = c.args in
    let the-absent = c.in-None in
    let the-in-product = c.in_product in
    total-absent the-args.f _ _ the-absent.is the-in-product.ensures

pub returns-in-Some : goal.returns-in-Some
returns-in-Some c =
    let the-args = c.args in
    let the-most = c.in-Some in
    total-given the-args.f _ _ the-most.is
