use mathlib.Core.Path.{refl, ◌∙◌}
use native.Mathlib.Omega.{arith}
use Rattle.desk_crosspoints.proofs.Under.{rows_apart}
use Rattle.sheet_writer.proofs.Laws.{links-begin, links-more, links_end}
use Rattle.sheet_writer.proofs.put_links.Goals as goal

pub loop-t-init : goal.loop-t-init
loop-t-init c = (omega arith, (refl, (refl, links-begin _ _ _ 0 _)))

pub put_link-next-requires : goal.put_link-next-requires
put_link-next-requires c =
    let a = rows_apart c.loop-t.t c.args.targets c.args.w (omega arith) in
    record { w_in_bounds = (omega (arith, a, c.requires.cells_len.0), c.requires.cells_len.1); t_lt_side = omega arith }

pub loop-t-preserved : goal.loop-t-preserved
loop-t-preserved c =
    let l = c.loop-t in (
      omega arith,
      (
        c.put_link-next.auto.rows ∙ l.invariant.1.0,
        (
          c.put_link-next.auto.octets ∙ l.invariant.1.1.0,
          l.invariant.1.1.1 ∙ links-more c.args.w c.args.cells.now c.args.targets l.t (omega arith) _ _ c.put_link-next.ensures.at_value,
        ),
      ),
    )

pub shape_of-rows : goal.shape_of-rows
shape_of-rows c = c.loop-t.invariant.1.0

pub shape_of-octets : goal.shape_of-octets
shape_of-octets c = c.loop-t.invariant.1.1.0

pub returns : goal.returns
returns c = c.loop-t.invariant.1.1.1 ∙ links_end c.args.w c.args.cells.now c.args.targets c.loop-t.t (omega arith) _
