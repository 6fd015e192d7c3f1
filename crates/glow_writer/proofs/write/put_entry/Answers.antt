use Rattle.glow_writer.proofs.Putting.{entry-none, entry-some}
use native.Mathlib.Omega.{arith}
use mathlib.Core.Path.{◌≡◌}
use Rattle.glow_writer.proofs.write.put_entry.Goals as goal

pub put_cells-a-requires : goal.put_cells-a-requires
put_cells-a-requires c = let h = c.split_of-split.ensures.upper_bound in (c.requires, (omega arith, omega arith))

pub returns-then-n-eq0 : goal.returns-then-n-eq0
returns-then-n-eq0 c =
    let t = c.if-n-eq0.true in
    let n : c.args.n ≡ 0 = omega arith in
    λ u z.
    entry-none _ _ _ _ c.split_of-split.ensures.kind_value c.split_of-split.ensures.upper_bound _ z _ _ _ _ c.put_cells-a.ensures u n

pub put_outer-b-requires : goal.put_outer-b-requires
put_outer-b-requires c = omega arith

pub put_cells-requires : goal.put_cells-requires
put_cells-requires c = let h = c.split_of-split.ensures.upper_bound in (c.requires, (omega arith, omega arith))

pub returns : goal.returns
returns c =
    let t = c.if-n-eq0.false in
    let n : c.args.n ≡ 0 → ⊥ = λ e. omega arith in
    λ u z.
    entry-some _ _ _ _ c.split_of-split.ensures.kind_value c.split_of-split.ensures.upper_bound _ z _ _ _ _ c.put_cells-a.ensures u n _ _ _ _
    c.put_outer-b.ensures c.put_cells.ensures
