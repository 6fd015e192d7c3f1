use mathlib.Core.Path.{◌∙◌}
use native.Mathlib.Omega.{arith}
use Rattle.base_output.proofs.Laws.{wrote_then}
use Rattle.framing_packets.proofs.Laws.{escape-plain, escape-high}
use Rattle.framing_writer.proofs.emit_escaped.Goals as goal

pub returns-then-b-ge248 : goal.returns-then-b-ge248
returns-then-b-ge248 c =
    record {
      b_value = rw (escape-high c.args.b (omega arith)) (wrote_then _ _ _ _ (c.put-next.ensures.b_value (omega arith))
          ∙ c.put.ensures.b_value (omega arith));
      upper_bound = omega arith;
    }

pub returns-else-b-ge248 : goal.returns-else-b-ge248
returns-else-b-ge248 c = record { b_value = rw (escape-plain c.args.b (omega arith)) (c.put-else-b-ge248.ensures.b_value (omega arith)); upper_bound = omega arith }
