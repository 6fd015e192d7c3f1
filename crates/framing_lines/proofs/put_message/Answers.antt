use mathlib.Core.Path.{◌∙◌}
use native.Mathlib.Omega.{arith}
use lib.Seq.{length-take-le}
use Rattle.base_output.proofs.Laws.{wrote_then}
use Rattle.framing_lines.proofs.Laws.{take-least}
use Rattle.framing_lines.proofs.put_message.Goals as goal

pub returns : goal.returns
returns c =
    record {
      store_value = rw (← take-least c.args.n c.args.store.now, ← c.min-count.ensures)
          (wrote_then _ _ _ _ (c.put-word_at.ensures.b_value (omega arith)) ∙ c.put_word.ensures.s_value);
      upper_bound = omega (arith, length-take-le c.min-count.result c.args.store.now (omega (arith, c.min-count.ensures)));
    }
