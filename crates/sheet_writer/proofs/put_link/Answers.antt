use Rattle.sheet_writer.proofs.Laws.{link-place, link-put}
use Rattle.sheet_writer.proofs.put_link.Goals as goal

pub overflow_sub-next : goal.overflow_sub-next
overflow_sub-next c =
    let a = c.args in
    (link-place a.w a.cells.now a.t c.requires.w_in_bounds.1 a.octets.now a.at c.requires.t_lt_side.1.1.0
    c.put_sources.ensures c.end_of-next.ensures).0

pub returns : goal.returns
returns c =
    let a = c.args in
    let few = c.requires.w_in_bounds.1 in
    let room = c.requires.t_lt_side.1.1.0 in record {
      at_value = link-put a.w a.cells.now a.t few a.octets.now a.at room c.put_sources.ensures c.end_of-next.ensures
          a.rows.now c.word.ensures c.word-2.ensures c.word-3.ensures c.list_of.ensures c.link_row.ensures;
      upper_bound = (link-place a.w a.cells.now a.t few a.octets.now a.at room c.put_sources.ensures c.end_of-next.ensures).1;
    }
