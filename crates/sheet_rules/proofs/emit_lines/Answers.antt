use mathlib.Core.Path.{refl, ◌∙◌}
use native.Mathlib.Omega.{arith}
use Rattle.sheet_rules.proofs.Laws.{breaks-more, breaks-end}
use Rattle.base_output.proofs.Laws.{wrote_none, wrote_then}
use Rattle.sheet_rules.proofs.emit_lines.Goals as goal

pub loop-b-init : goal.loop-b-init
loop-b-init c = (omega arith, (refl, refl))

pub loop-b-preserved : goal.loop-b-preserved
loop-b-preserved c =
    let l = c.loop-b in
    let more = breaks-more c.args.s.now l.b-index (omega arith) in (
      omega arith,
      (
        c.emit_byte-next.auto.out ∙ l.invariant.1.0,
        l.invariant.1.1 ∙ rw more (wrote_then _ _ _ _ c.emit_byte-next.ensures.b_value),
      ),
    )

pub shape_of-out : goal.shape_of-out
shape_of-out c = c.loop-b.invariant.1.0

pub returns : goal.returns
returns c =
    let l = c.loop-b in
    let end = breaks-end c.args.s.now l.b-index (omega arith) in
    record { s_value = l.invariant.1.1 ∙ rw end (wrote_none _ _); upper_bound = omega arith }
