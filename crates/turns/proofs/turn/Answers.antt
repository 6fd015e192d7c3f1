use borrow.Enum.Refused.{opened}
use Rattle.turns.proofs.Steps.{other-event, later-none, later-message}
use lib.Seq.{length-take-le}
use mathlib.Core.Path.{sym}
use Rattle.desk_crosspoints.specs.Desk.{desk_at}
use Rattle.desk_crosspoints.specs.Crosspoints.{clear}
use Rattle.turns.proofs.turn.Goals as goal

pub returns-in_default : goal.returns-in_default
unfolding clear
returns-in_default c =
    let a = c.args in
    let d = desk_at a.figures a.path.now a.crosspoints.now in
    let e = c.feed-fed.result.event in
    record {
      chunk_value = c.feed-fed.ensures;
      table_after = later-none d e c.feed-fed.new.store a.table.now (other-event e (opened c.in_default.in_default-own.keys2));
    }

pub slice_bounds-message-end-2 : goal.slice_bounds-message-end-2
slice_bounds-message-end-2 c = sym (length-take-le _ _ c.front-n.ensures.upper_bound)

pub returns : goal.returns
returns c =
    let a = c.args in
    let d = desk_at a.figures a.path.now a.crosspoints.now in
    record {
      chunk_value = c.feed-fed.ensures;
      table_after = later-message d c.feed-fed.result.event c.feed-fed.new.store a.table.now c.in-Message.length c.front-n.result
          c.in-Message.is c.front-n.ensures.store_value c.message-handled.ensures;
    }
