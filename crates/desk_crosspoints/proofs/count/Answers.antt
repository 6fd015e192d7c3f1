use Rattle.desk_crosspoints.proofs.Laws.{count-append, count-le, count-none}
use Rattle.desk_crosspoints.specs.Crosspoints.{count}
use Rattle.std.specs.Slice.Iter.{chunks_rest, chunks_size}
use Prim.Native.Nat.{◌+◌}
use mathlib.Core.Path.{◌≡◌, ap, ◌∙◌}
use native.Mathlib.Omega.{arith}
use Rattle.desk_crosspoints.proofs.count.Goals as goal

-- what a part tells of the cells that were left
part-told : (c : goal.After-count_few-n) → count (chunks_rest c.loop-part.part-iterator) ≡ count c.in-Some.part.now + count (chunks_rest c.next.new.self)
part-told c = ap count c.in-Some.ensures.steps.1.0 ∙ count-append c.in-Some.part.now (chunks_rest c.next.new.self)

pub loop-part-init : goal.loop-part-init
loop-part-init c =
    let e = ap chunks_rest c.into_iter-part-iterator.ensures.into_iter_gives ∙ c.chunks-part-items.ensures.rest in
    (omega (arith, ap count e), ap chunks_size c.into_iter-part-iterator.ensures.into_iter_gives ∙ c.chunks-part-items.ensures.size)

pub count_few-n-requires : goal.count_few-n-requires
count_few-n-requires c = omega (arith, c.in-Some.ensures.steps.1.1, c.loop-part.invariant.1)

pub overflow_add-n : goal.overflow_add-n
overflow_add-n c = omega (arith, part-told c, count-le c.args.cells.now)

pub loop-part-preserved : goal.loop-part-preserved
loop-part-preserved c = (omega (arith, part-told c), c.in-Some.ensures.steps.0 ∙ c.loop-part.invariant.1)

pub returns : goal.returns
returns c = omega (arith, count-none _ c.in-None.ensures.steps.1.0)
