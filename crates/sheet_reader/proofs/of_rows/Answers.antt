use native.Mathlib.Omega.{arith}
use Rattle.sheet_reader.proofs.Messages.{octets-all, never-setup, tells-refused, tells-room, entries-accepted, entries-few, rows_few, tells-entries}
use Rattle.sheet_reader.proofs.of_rows.Goals as goal

pub of_entries-requires : goal.of_entries-requires
of_entries-requires c =
    let a = c.args in
    let octets = octets-all a.m.now (λ i. omega (arith, c.type_inv.m i)) in
    let few = c.requires.m_len_bound in
    let sized = c.requires.table_len.0 in
    let f = rows_few a.m.now a.table.now few sized _ _ c.read.ensures a.path.now a.crosspoints.now _ _ c.in-Read.is octets in
    let k = entries-few a.m.now a.table.now few sized _ _ c.read.ensures a.path.now a.crosspoints.now _ _ c.in-Read.is octets in
    let g = entries-accepted a.m.now a.table.now few sized _ _ c.read.ensures a.path.now a.crosspoints.now _ _
    c.in-Read.is octets in record {
      path_len = (c.requires.table_len.1.0, (c.requires.table_len.1.1, (f, (few, k))));
      count_value = g;
    }

pub returns-in-Setup : goal.returns-in-Setup
returns-in-Setup c = absurd (never-setup _ _ c.requires.m_len_bound c.requires.table_len.0 _ _ c.read.ensures c.in-Setup.is)

pub returns-in-Refused : goal.returns-in-Refused
returns-in-Refused c = tells-refused _ _ c.requires.m_len_bound c.requires.table_len.0 _ _ c.read.ensures _ _ _ _ c.in-Refused.is

pub returns-in-Room : goal.returns-in-Room
returns-in-Room c = tells-room _ _ c.requires.m_len_bound c.requires.table_len.0 _ _ c.read.ensures _ _ _ c.in-Room.is

pub returns-in-Read : goal.returns-in-Read
returns-in-Read c =
    let octets = octets-all c.args.m.now (λ i. omega (arith, c.type_inv.m i)) in
    tells-entries _ _ c.requires.m_len_bound c.requires.table_len.0 _ _ c.read.ensures _ _ _ _ c.in-Read.is octets
    c.of_entries.result c.of_entries.new.path c.of_entries.new.crosspoints c.of_entries.ensures
