use Rattle.glow_rows.specs.Entry.{blanks}
use Rattle.glow_rows.specs.Entry.{with_cell}
use Rattle.glow_entries.specs.Record.{filled, node_row}
use Rattle.glow_entries.proofs.Answers.{begun-is, put-member}
use Rattle.glow_entries.proofs.NodeEntry.row.Goals as goal

pub returns : goal.returns
unfolding node_row filled with_cell blanks
returns c =
    let r =
    begun-is c.key_kind.ensures
    c.parent_word.ensures c.begun-row.ensures in
    let r = put-member 0 tt r c.key_cell.ensures c.put_in.ensures in
    let r = put-member 1 tt r c.part_cell.ensures c.put_in-2.ensures in
    let r = put-member 2 tt r c.part_cell-2.ensures c.put_in-3.ensures in
    let r = put-member 3 tt r c.flag_cell.ensures c.put_in-4.ensures in
    (put-member 4 tt r c.flag_cell-2.ensures c.put_in-5.ensures).is
