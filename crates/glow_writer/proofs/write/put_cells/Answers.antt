use Rattle.glow_rows.proofs.Words.{cell_in_lem}
use Rattle.glow_writer.proofs.Putting.{onward-start, onward-more, onward-end}
use native.Mathlib.Omega.{arith}
use mathlib.Core.Path.{refl, ◌∙◌}
use Rattle.glow_writer.proofs.write.put_cells.Goals as goal

pub loop-c-init : goal.loop-c-init
loop-c-init c = let q = c.requires in (omega arith, (q.1.0, (refl, onward-start _ _ _ _ _ _ _)))

pub overflow_sub-c : goal.overflow_sub-c
overflow_sub-c c =
    let the-loop = c.loop-c in
    let h = the-loop.invariant in omega arith

pub byte-requires : goal.byte-requires
byte-requires c =
    let the-loop = c.loop-c in
    let h = the-loop.invariant in let q = c.requires in omega arith

pub put_member-p-requires : goal.put_member-p-requires
put_member-p-requires c =
    let the-loop = c.loop-c in
    let h = the-loop.invariant in let q = c.requires in let b = c.byte.ensures in omega arith

pub loop-c-preserved : goal.loop-c-preserved
loop-c-preserved c =
    let the-loop = c.loop-c in
    let q = c.requires in
    let h = the-loop.invariant in (
      omega arith,
      (
        omega arith,
        (
          c.put_member-p.auto.out ∙ h.1.1.0,
          onward-more _ _ _ _ _ _ _ _ _ _ (omega arith) h.0
              h.1.1.1 _ (c.cell_at.ensures ∙ cell_in_lem _ _ _ (omega arith)) _ c.byte.ensures _ _ c.put_member-p.ensures,
        ),
      ),
    )

pub shape_of-out : goal.shape_of-out
shape_of-out c =
    let the-loop = c.loop-c in
    the-loop.invariant.1.1.0

pub returns : goal.returns
returns c =
    let the-loop = c.loop-c in
    λ u. onward-end _ _ _ _ _ _ _ _ _ _ (omega arith) the-loop.invariant.1.0 the-loop.invariant.1.1.1 u
