use mathlib.Core.Path.{refl, ◌∙◌}
use native.Mathlib.Omega.{arith}
use Rattle.desk_calls.proofs.Served.{serve-start, serve-end}
use Rattle.desk_calls.proofs.serve.Goals as goal

pub loop-i-init : goal.loop-i-init
loop-i-init c =
    let the-total-of = c.total_of-total in
    (serve-start _ _ _ c.requires.1.1.0 _ _, (omega arith, (refl, (refl, (c.requires.0, the-total-of.ensures)))))

pub take_entry-taken-requires : goal.take_entry-taken-requires
take_entry-taken-requires c =
    let the-loop = c.loop-i in
    let the-loop-test = c.loop-i-test in
    let i = the-loop.invariant in
    let q = c.requires in
    record {
      cells_value = (i.1.1.1.1.0, (q.1.0, (q.1.1.0, the-loop-test.true)));
      n_in_bounds = omega (arith, i.1.0, i.1.1.1.0, q.1.1.1, the-loop-test.true);
      cells_value_2 = i.1.1.1.1.1;
    }

pub loop-i-preserved : goal.loop-i-preserved
loop-i-preserved c =
    let the-loop = c.loop-i in
    let the-entry = c.take_entry-taken in
    let i = the-loop.invariant in
    let t = the-entry.ensures in
    let k = the-entry.auto in
    (i.0 ∙ t.fact, (omega (arith, i.1.0, t.fact_2.0), (k.cells ∙ i.1.1.0, (k.answers ∙ i.1.1.1.0, t.fact_2.1))))

pub shape_of-cells : goal.shape_of-cells
shape_of-cells c =
    let the-loop = c.loop-i in
    the-loop.invariant.1.1.0

pub shape_of-answers : goal.shape_of-answers
shape_of-answers c =
    let the-loop = c.loop-i in
    the-loop.invariant.1.1.1.0

pub returns : goal.returns
returns c =
    let the-loop = c.loop-i in
    let the-loop-test = c.loop-i-test in
    the-loop.invariant.0 ∙ serve-end _ _ _ c.requires.1.1.0 _ _ _ _ (omega arith)
