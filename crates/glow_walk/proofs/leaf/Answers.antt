use Rattle.glow_walk.proofs.Held.{on-onward, turn-no, turn-leaf}
use Rattle.glow_steps.proofs.Quick.{quick-no, quick-kept}
use Rattle.glow_grammar.specs.declared.Leaf.TheVariants.{Kept}
use Rattle.glow_rows.specs.declared.Cell.{Cell}
use native.Mathlib.Omega.{arith}
use mathlib.Core.Path.{ap, ◌∙◌}
use Rattle.glow_walk.proofs.leaf.Goals as goal

pub returns-then-first : goal.returns-then-first
returns-then-first c =
    let q = c.requires in record {
      leaf_turn = record {
        turned = λ o k h w l m.
            (turn-leaf _ _ _ _ _ _
            (quick-kept _ _ _ _ _ _ _ _ h w c.wide-number.ensures.value c.size-len.ensures c.after_listed-before.ensures.n_value l c.wide-kind.ensures.value
            c.column_of-c.ensures.n_value (c.word_of-first.ensures c.if-first.true _ _
            ∙ ap (λ (y : Cell). Kept y c.args.at.above) c.worded.ensures))
            (omega (arith, q.0)) (omega arith) m q.1.1 c.put_cell.ensures c.on.ensures).0;
      };
      turn_onward = on-onward _ _ _ c.on.ensures (omega (arith, q.0)) (omega arith) q.1.1;
    }

pub returns-in-Refused : goal.returns-in-Refused
returns-in-Refused c =
    record {
      leaf_turn = record {
        turned = λ o k h w l m.
            turn-no _ _ _ _ _ _
            (quick-no _ _ _ _ _ _ _ _ h w c.wide-number.ensures.value c.size-len.ensures c.after_listed-before.ensures.n_value l c.wide-kind.ensures.value
            (c.read_leaf.ensures.above_value ∙ c.in-Refused.is));
      };
      turn_onward = tt;
    }

pub returns-in-Kept : goal.returns-in-Kept
returns-in-Kept c =
    record {
      leaf_turn = record {
        turned = λ o k h w l m.
            (turn-leaf _ _ _ _ _ _
            (quick-kept _ _ _ _ _ _ _ _ h w c.wide-number.ensures.value c.size-len.ensures c.after_listed-before.ensures.n_value l c.wide-kind.ensures.value
            c.column_of-c.ensures.n_value (c.read_leaf.ensures.above_value ∙ c.in-Kept.is))
            (omega (arith, c.requires.0)) (omega arith) m c.requires.1.1 c.put_cell-in-Kept.ensures c.on-in-Kept.ensures).0;
      };
      turn_onward = on-onward _ _ _ c.on-in-Kept.ensures (omega (arith, c.requires.0)) (omega arith) c.requires.1.1;
    }
