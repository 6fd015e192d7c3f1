use Rattle.framing_lines.proofs.Laws.{line-put, line-not, store-fits, store_long}
use borrow.Author.Tests.{leb-true}
use native.Mathlib.Omega.{arith}
use mathlib.Core.Path.{sym, ◌∙◌}
use Rattle.framing_lines.proofs.put_event.Goals as goal

pub returns-then-store-gt-STORE_LENGTH : goal.returns-then-store-gt-STORE_LENGTH
returns-then-store-gt-STORE_LENGTH c = record { store_value = store_long _ _ _ _ _ c.if-store-gt-STORE_LENGTH.true; upper_bound = omega arith }

pub put_event_line-requires : goal.put_event_line-requires
put_event_line-requires c = (leb-true _ _ (sym c.has_room.ensures ∙ c.if-has_room.true), omega arith)

pub returns-then-has_room : goal.returns-then-has_room
returns-then-has_room c =
    let line = line-put _ _ _ _ c.has_room.ensures c.if-has_room.true c.put_event_line.ensures.store_value in
    record { store_value = store-fits _ _ _ _ _ c.if-store-gt-STORE_LENGTH.false ∙ line; upper_bound = c.put_event_line.ensures.upper_bound }

pub returns : goal.returns
returns c =
    record {
      store_value = store-fits _ _ _ _ _ c.if-store-gt-STORE_LENGTH.false ∙ line-not _ _ _ _ c.has_room.ensures c.if-has_room.false;
      upper_bound = omega arith;
    }
