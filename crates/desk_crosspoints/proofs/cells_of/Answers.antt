use Rattle.desk_crosspoints.proofs.Under.{size_small}
use mathlib.Core.Path.{sym}
use native.Mathlib.Omega.{arith}
use Rattle.desk_crosspoints.proofs.cells_of.Goals as goal

pub overflow_mul-f : goal.overflow_mul-f
overflow_mul-f c = omega (arith, size_small c.args.f.targets c.args.f.sources (omega arith) (omega arith))

pub returns : goal.returns
returns c =
    let the-index = c.index in
    sym the-index.ensures
