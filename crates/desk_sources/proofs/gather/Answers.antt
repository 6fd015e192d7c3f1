use native.Mathlib.Omega.{arith}
use mathlib.Core.Path.{refl, ◌∙◌}
use lib.ListN.{length-set}
use lib.ListN.{take}
use Rattle.glow_paths.proofs.Numbers.{left-none}
use Rattle.desk_sources.proofs.Sources.{kept-none, kept-le, gather-more, gather-end, gather-out}
use Rattle.desk_sources.proofs.gather.Goals as goal

pub loop-p-init : goal.loop-p-init
loop-p-init c =
    let the-list-end = c.list_end-end in
    (_, (the-list-end.ensures.left, (kept-none _ _ c.requires.side_in_bounds c.requires.marks_value, (λ x. refl, (refl, refl)))))

pub bounds-list-0 : goal.bounds-list-0
bounds-list-0 c =
    let the-loop = c.loop-p in
    let i = the-loop.invariant in let r = i.1.1.0.room in omega (arith, r)

pub shape_of-list-then-sources-x : goal.shape_of-list-then-sources-x
shape_of-list-then-sources-x c =
    let the-loop = c.loop-p in
    let the-next-number = c.next_number-x in
    let i = the-loop.invariant in length-set the-loop.list 0 the-next-number.result.number ∙ i.1.1.1.1.0

pub shape_of-marks-then-sources-x : goal.shape_of-marks-then-sources-x
shape_of-marks-then-sources-x c =
    let the-loop = c.loop-p in
    let i = the-loop.invariant in i.1.1.1.1.1

pub returns-then-sources-x : goal.returns-then-sources-x
returns-then-sources-x c =
    let the-loop = c.loop-p in
    let the-loop-test = c.loop-p-test in
    let the-next-number = c.next_number-x in
    let the-if1 = c.if-sources-x in
    let i = the-loop.invariant in
    let r = i.1.1.0.room in
    let g = the-next-number.ensures.goes the-loop-test.true i.0 i.1.0 in record {
      handed = gather-out _ (take the-loop.k the-loop.list) i.0 g.0 _ the-loop.list _ g.1.0
          i.1.1.1.0 (omega (arith, the-if1.true)) (omega (arith, r));
      upper_bound = omega arith;
    }

pub keep-k-requires : goal.keep-k-requires
keep-k-requires c =
    let the-loop = c.loop-p in
    let the-if1 = c.if-sources-x in
    let i = the-loop.invariant in let a = c.requires.sources_le_side in let b = the-if1.false in record { kept = i.1.1.0; x_lt_side = omega (arith, a, b) }

pub loop-p-smaller : goal.loop-p-smaller
loop-p-smaller c =
    let the-loop-test = c.loop-p-test in
    let the-next-number = c.next_number-x in
    let w = the-next-number.ensures.p_lt_next the-loop-test.true in omega arith

pub loop-p-preserved : goal.loop-p-preserved
loop-p-preserved c =
    let the-loop = c.loop-p in
    let the-loop-test = c.loop-p-test in
    let the-next-number = c.next_number-x in
    let the-keep = c.keep-k in
    let i = the-loop.invariant in
    let g = the-next-number.ensures.goes the-loop-test.true i.0 i.1.0 in (
      g.0,
      (
        g.1.1,
        (
          the-keep.ensures.kept_2,
          (
            gather-more _ _ i.0 g.0 _ _ g.1.0 the-keep.ensures.list_after i.1.1.1.0,
            (the-keep.auto.list ∙ i.1.1.1.1.0, the-keep.auto.marks ∙ i.1.1.1.1.1),
          ),
        ),
      ),
    )

pub shape_of-list : goal.shape_of-list
shape_of-list c =
    let the-loop = c.loop-p in
    let i = the-loop.invariant in i.1.1.1.1.0

pub shape_of-marks : goal.shape_of-marks
shape_of-marks c =
    let the-loop = c.loop-p in
    let i = the-loop.invariant in i.1.1.1.1.1

pub returns : goal.returns
returns c =
    let the-loop = c.loop-p in
    let the-loop-test = c.loop-p-test in
    let i = the-loop.invariant in
    record { handed = gather-end _ _ i.0 _ (left-none _ _ _ i.0 the-loop-test.false i.1.0) i.1.1.1.0; upper_bound = kept-le _ _ _ i.1.1.0 }
