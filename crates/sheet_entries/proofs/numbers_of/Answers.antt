use Rattle.sheet_entries.proofs.Numbers.{taken-end, taken_more, taken-over}
use Rattle.glow_paths.proofs.Numbers.{left-none}
use lib.ListN.{length-set}
use mathlib.Core.Path.{refl, ◌∙◌}
use native.Mathlib.Omega.{arith}
use Rattle.sheet_entries.proofs.numbers_of.Goals as goal

pub loop-p-init : goal.loop-p-init
loop-p-init c = (_, (c.list_end-end.ensures.left, (refl, (refl, omega arith))))

pub shape_of-list-then-k-ge16 : goal.shape_of-list-then-k-ge16
shape_of-list-then-k-ge16 c =
    let the-loop = c.loop-p in
    the-loop.invariant.1.1.1.0

pub returns-then-k-ge16 : goal.returns-then-k-ge16
returns-then-k-ge16 c =
    let the-loop = c.loop-p in
    let i = the-loop.invariant in let l = i.1.1.1.1 in let g = c.next_number-x.ensures.goes c.loop-p-test.true i.0 i.1.0 in
    taken-over _ _ i.0 the-loop.k (i.1.1.1.0 ∙ c.requires) i.1.1.0 _ g.0 g.1.0 (omega arith)

pub bounds-list-k : goal.bounds-list-k
bounds-list-k c =
    let the-loop = c.loop-p in
    let i = the-loop.invariant in let a = i.1.1.1.0 in let b = c.requires in omega arith

pub overflow_add-k : goal.overflow_add-k
overflow_add-k c = omega arith

pub loop-p-smaller : goal.loop-p-smaller
loop-p-smaller c = let w = c.next_number-x.ensures.p_lt_next c.loop-p-test.true in omega arith

pub loop-p-preserved : goal.loop-p-preserved
loop-p-preserved c =
    let the-loop = c.loop-p in
    let i = the-loop.invariant in
    let g = c.next_number-x.ensures.goes c.loop-p-test.true i.0 i.1.0 in (
      g.0,
      (
        g.1.1,
        (
          taken_more _ _ i.0 the-loop.k (i.1.1.1.0 ∙ c.requires) i.1.1.0 _ g.0 g.1.0 (omega arith),
          (length-set the-loop.list the-loop.k c.next_number-x.result.number ∙ i.1.1.1.0, omega arith),
        ),
      ),
    )

pub shape_of-list : goal.shape_of-list
shape_of-list c =
    let the-loop = c.loop-p in
    the-loop.invariant.1.1.1.0

pub returns : goal.returns
returns c =
    let the-loop = c.loop-p in
    let i = the-loop.invariant in taken-end _ _ i.0 _ (i.1.1.1.0 ∙ c.requires) i.1.1.0
    (left-none _ _ _ i.0 c.loop-p-test.false i.1.0) i.1.1.1.1
