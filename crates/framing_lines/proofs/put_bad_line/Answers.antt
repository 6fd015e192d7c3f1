use Rattle.framing_lines.specs.Text.{line_room}
use lib.ListN.{length}
use Prim.Native.Nat.{◌+◌}
use Rattle.framing_lines.proofs.Laws.{line-put, line-not}
use borrow.Author.Tests.{leb-true}
use native.Mathlib.Omega.{arith}
use mathlib.Core.Path.{sym, ◌∙◌}
use Rattle.framing_lines.proofs.put_bad_line.Goals as goal

pub put_bytes-requires : goal.put_bytes-requires
put_bytes-requires c = omega (arith, leb-true (c.args.at + line_room) (length c.args.out.now) (sym c.has_room.ensures ∙ c.if-has_room.true))

pub returns-then-has_room : goal.returns-then-has_room
returns-then-has_room c =
    record { bad_line_text_value = line-put _ _ _ _ c.has_room.ensures c.if-has_room.true c.put_bytes.ensures.s_value; upper_bound = omega arith }

pub returns : goal.returns
returns c = record { bad_line_text_value = line-not _ _ _ _ c.has_room.ensures c.if-has_room.false; upper_bound = omega arith }
