use Rattle.desk_crosspoints.proofs.Laws.{product-none, product-less, product-tells}
use native.Mathlib.Omega.{arith}
use Rattle.desk_crosspoints.proofs.in_product.Goals as goal

pub returns-then-n-lt1 : goal.returns-then-n-lt1
returns-then-n-lt1 c =
    let the-args = c.args in
    product-none the-args.n the-args.a the-args.b (omega arith)

pub returns-then-b-lt1 : goal.returns-then-b-lt1
returns-then-b-lt1 c =
    let the-args = c.args in
    product-less the-args.n the-args.a the-args.b (omega arith) (omega arith)

pub returns : goal.returns
returns c =
    let the-args = c.args in
    product-tells the-args.n the-args.a the-args.b (omega arith) (omega arith)
