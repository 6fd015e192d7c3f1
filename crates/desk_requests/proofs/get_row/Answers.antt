use Prim.Native.Nat.{ℕ, ◌*◌}
use Rattle.desk_crosspoints.proofs.Laws.{row_is}
use lib.ListN.{length}
use mathlib.Core.Path.{ap, ◌∙◌}
use native.Mathlib.Omega.{arith}
use Rattle.desk_requests.proofs.get_row.Goals as goal

pub overflow_mul-from : goal.overflow_mul-from
overflow_mul-from c = let q = ap (λ (x : ℕ). x * length c.args.row.now) c.index.ensures in omega (arith, q, c.requires)

pub overflow_add-to : goal.overflow_add-to
overflow_add-to c = let q = ap (λ (x : ℕ). x * length c.args.row.now) c.index.ensures in omega (arith, q, c.requires)

pub returns : goal.returns
returns c =
    let q = ap (λ (x : ℕ). x * length c.args.row.now) c.index.ensures in
    c.copy_from_slice.ensures.after ∙ row_is (length c.args.row.now) c.args.cells.now c.args.target _ _ q (omega (arith, q))
