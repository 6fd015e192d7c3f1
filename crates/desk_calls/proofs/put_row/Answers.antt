use Prim.Native.Nat.{ℕ, ◌*◌, ◌+◌}
use Rattle.desk_requests.proofs.Parts.{row_put}
use lib.ListN.{length}
use mathlib.Core.Path.{ap}
use native.Mathlib.Omega.{arith}
use Rattle.desk_calls.proofs.put_row.Goals as goal

pub overflow_mul-from : goal.overflow_mul-from
overflow_mul-from c =
    let the-index = c.index-t in
    let q = ap (λ (x : ℕ). x * length c.args.row.now) the-index.ensures in omega (arith, q, c.requires)

pub overflow_add-to : goal.overflow_add-to
overflow_add-to c =
    let the-index = c.index-t in
    let q = ap (λ (x : ℕ). x * length c.args.row.now) the-index.ensures in omega (arith, q, c.requires)

pub returns : goal.returns
returns c =
    let the-index = c.index-t in
    let the_copy = c.copy_from_slice in
    let q = ap (λ (x : ℕ). x * length c.args.row.now) the-index.ensures in
    let p = ap (λ (x : ℕ). x + length c.args.row.now) q in
    row_put (length c.args.row.now) c.args.cells.now c.args.target _ _ _ _ the_copy.ensures.after q p
