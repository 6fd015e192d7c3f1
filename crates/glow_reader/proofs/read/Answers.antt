use Rattle.glow_reader.proofs.Laws.{read-tall, read-long, read_no, read-room, read-filled}
use Rattle.glow_reader.proofs.read.Goals as goal

pub returns-then-table-gt-MOST_ENTRIES : goal.returns-then-table-gt-MOST_ENTRIES
returns-then-table-gt-MOST_ENTRIES c = read-tall _ _ c.if-table-gt-MOST_ENTRIES.true

pub returns-then-s-gt-MOST_BYTES : goal.returns-then-s-gt-MOST_BYTES
returns-then-s-gt-MOST_BYTES c = read-long _ _ c.if-table-gt-MOST_ENTRIES.false c.if-s-gt-MOST_BYTES.true

pub returns-then-table-count : goal.returns-then-table-count
returns-then-table-count c =
    let m = c.message in
    read-room _ _ c.if-table-gt-MOST_ENTRIES.false c.if-s-gt-MOST_BYTES.false m.new.table m.auto.table m.ensures c.in-Ok.is c.if-table-count.true

pub returns-in-Err : goal.returns-in-Err
returns-in-Err c =
    let m = c.message in
    read_no _ _ c.if-table-gt-MOST_ENTRIES.false c.if-s-gt-MOST_BYTES.false m.new.table m.auto.table m.ensures c.in-Err.is

pub returns-else-table-count : goal.returns-else-table-count
returns-else-table-count c =
    let m = c.message in
    read-filled _ _ c.if-table-gt-MOST_ENTRIES.false c.if-s-gt-MOST_BYTES.false m.new.table m.auto.table m.ensures c.in-Ok.is c.if-table-count.false c.message-again.ensures
