use mathlib.Core.Path.{◌∙◌}
use native.Mathlib.Omega.{arith}
use Rattle.base_output.proofs.Laws.{wrote_none, wrote_then}
use Rattle.framing_digits.proofs.Laws.{rest_more, rest_end}
use Rattle.framing_lines.proofs.put_bytes.Goals as goal

pub loop-b-preserved : goal.loop-b-preserved
loop-b-preserved c =
    let i = c.loop-b.invariant in (
      omega arith,
      c.put-next.auto.out ∙ i.1,
      i.2 ∙ rw (rest_more c.args.s.now c.loop-b.b-index (omega arith)) (wrote_then _ _ _ _ (c.put-next.ensures.b_value (omega arith))),
    )

pub returns : goal.returns
returns c = record { s_value = c.loop-b.invariant.2 ∙ rw (rest_end c.args.s.now c.loop-b.b-index (omega arith)) (wrote_none _ _); upper_bound = omega arith }
