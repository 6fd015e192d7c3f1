use Rattle.desk_calls.proofs.Claims.{answered-legal}
use Rattle.desk_calls.proofs.Served.{entry_other, entry-asks, answer-same}
use mathlib.Core.Path.{sym, ◌∙◌}
use native.Mathlib.Omega.{arith}
use Rattle.desk_calls.proofs.take_entry.Goals as goal

pub returns-then-word_at-ne-CONNECTION : goal.returns-then-word_at-ne-CONNECTION
returns-then-word_at-ne-CONNECTION c =
    let q = c.requires.cells_value in
    record {
      fact = entry_other _ _ _ q.1.1.0 _ _ _ _ q.1.1.1 _ c.word_at.ensures c.if-word_at-ne-CONNECTION.true;
      fact_2 = (omega arith, (q.0, c.requires.cells_value_2));
    }

pub returns : goal.returns
returns c =
    let q = c.requires.cells_value in
    let a = c.answer_to-answered.ensures in
    record {
      fact = entry-asks _ _ _ q.1.1.0 _ _ _ _ q.1.1.1 _ c.word_at.ensures c.if-word_at-ne-CONNECTION.false c.requires.n_in_bounds _ _
          (answer-same _ _ _ _ a.i_value (sym c.number_of.ensures));
      fact_2 = (omega arith, (answered-legal _ _ _ _ q.0 a.i_value, a.cells_after ∙ sym c.unwrap_or.ensures));
    }
