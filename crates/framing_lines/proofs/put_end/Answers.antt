use Rattle.framing_lines.proofs.Laws.{line-put, line-not}
use borrow.Author.Tests.{leb-true}
use native.Mathlib.Omega.{arith}
use mathlib.Core.Path.{sym, ◌∙◌}
use Rattle.framing_lines.proofs.put_end.Goals as goal

pub put_end_line-requires : goal.put_end_line-requires
put_end_line-requires c = leb-true _ _ (sym c.has_room.ensures ∙ c.if-has_room.true)

pub returns-then-has_room : goal.returns-then-has_room
returns-then-has_room c =
    record {
      session_value = line-put _ _ _ _ c.has_room.ensures c.if-has_room.true c.put_end_line.ensures.session_value;
      upper_bound = c.put_end_line.ensures.upper_bound;
    }

pub returns : goal.returns
returns c = record { session_value = line-not _ _ _ _ c.has_room.ensures c.if-has_room.false; upper_bound = omega arith }
