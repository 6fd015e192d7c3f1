use mathlib.Core.Path.{◌∙◌}
use native.Mathlib.Omega.{arith}
use Rattle.base_output.proofs.Laws.{wrote_none, wrote_then}
use Rattle.framing_packets.proofs.Laws.{escapes-more, escapes-end}
use Rattle.framing_writer.proofs.emit_slice.Goals as goal

pub loop-b-preserved : goal.loop-b-preserved
loop-b-preserved c =
    let i = c.loop-b.invariant in (
      omega arith,
      c.emit_escaped-next.auto.out ∙ i.1,
      i.2 ∙ rw (escapes-more c.args.s.now c.loop-b.b-index (omega arith)) (wrote_then _ _ _ _ c.emit_escaped-next.ensures.b_value),
    )

pub returns : goal.returns
returns c = record { s_value = c.loop-b.invariant.2 ∙ rw (escapes-end c.args.s.now c.loop-b.b-index (omega arith)) (wrote_none _ _); upper_bound = omega arith }
