use native.Mathlib.Omega.{arith}
use mathlib.Core.Path.{refl, ◌∙◌}
use Rattle.glow_paths.proofs.Numbers.{left_same, left-fewer, same-other, same_more}
use Rattle.glow_paths.proofs.same_numbers.Goals as goal

pub loop-number-init : goal.loop-number-init
loop-number-init c = (_, (c.list_end-end.ensures.left, refl))

pub returns-then-end-p : goal.returns-then-end-p
returns-then-end-p c = let i = c.loop-number.invariant in i.1.1 ∙ left-fewer _ _ _ _ c.args.path.now c.loop-number.number-index i.1.0 c.if-end-p.true (omega arith)

pub returns-then-number-x : goal.returns-then-number-x
returns-then-number-x c =
    let i = c.loop-number.invariant in
    let g = c.next_number-x.ensures.goes c.if-end-p.false i.0 i.1.0 in
    i.1.1 ∙ same-other i.0 c.args.path.now c.loop-number.number-index _ g.0 g.1.0 (omega arith) c.if-number-x.true

pub loop-number-preserved : goal.loop-number-preserved
loop-number-preserved c =
    let i = c.loop-number.invariant in
    let g = c.next_number-x.ensures.goes c.if-end-p.false i.0 i.1.0 in
    (g.0, (g.1.1, i.1.1 ∙ same_more i.0 c.args.path.now c.loop-number.number-index _ g.0 g.1.0 (omega arith) c.if-number-x.false))

pub returns : goal.returns
returns c = let i = c.loop-number.invariant in i.1.1 ∙ left_same _ _ _ _ c.args.path.now c.loop-number.number-index i.1.0 (omega arith)
