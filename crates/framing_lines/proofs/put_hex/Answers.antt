use mathlib.Core.Path.{◌∙◌}
use native.Mathlib.Omega.{arith}
use Rattle.base_hex.proofs.Laws.{hex-more, hex-end}
use Rattle.base_output.proofs.Laws.{wrote_none, wrote_then}
use Rattle.framing_lines.proofs.put_hex.Goals as goal

pub loop-b-preserved : goal.loop-b-preserved
loop-b-preserved c =
    let i = c.loop-b.invariant in (
      omega arith,
      c.put-next-in-loop-b.auto.out ∙ c.put-next.auto.out ∙ i.1,
      i.2 ∙ rw (hex-more c.args.s.now c.loop-b.b-index (omega arith), ← c.high.ensures, ← c.low.ensures)
          (wrote_then _ _ _ _ (c.put-next.ensures.b_value (omega arith)) ∙ wrote_then _ _ _ _ (c.put-next-in-loop-b.ensures.b_value (omega arith))),
    )

pub returns : goal.returns
returns c = record { s_value = c.loop-b.invariant.2 ∙ rw (hex-end c.args.s.now c.loop-b.b-index (omega arith)) (wrote_none _ _); upper_bound = omega arith }
