use mathlib.Core.Path.{sym}
use Rattle.sheet_reader.proofs.Desks.{opens_not, done-within, done-length, opens-done}
use Rattle.sheet_reader.proofs.apply.Goals as goal

pub returns-then-opened-ne0 : goal.returns-then-opened-ne0
returns-then-opened-ne0 c =
    opens_not _ _ _ _ _ c.requires.cells_len.0 _ _ c.open-opened.ensures c.if-opened-ne0.true _

pub slice_bounds-answers-end : goal.slice_bounds-answers-end
slice_bounds-answers-end c =
    let q = c.requires.cells_len.1 in
    done-within _ _ _ _ c.requires.cells_len.0 _ _ c.open-opened.ensures c.if-opened-ne0.false _ _ _ _ q.0 q.1.0 q.1.1 c.requires.count_value
    c.call-called.result _
    c.call-called.ensures

pub slice_bounds-first_refused-end : goal.slice_bounds-first_refused-end
slice_bounds-first_refused-end c =
    let q = c.requires.cells_len.1 in
    sym (done-length _ _ _ _ c.requires.cells_len.0 _ _ c.open-opened.ensures c.if-opened-ne0.false _ _ _ _ q.0 q.1.0 q.1.1 c.requires.count_value
    c.call-called.result _
    c.call-called.ensures)

pub returns : goal.returns
returns c =
    let q = c.requires.cells_len.1 in
    opens-done _ _ _ _ c.requires.cells_len.0 _ _ c.open-opened.ensures c.if-opened-ne0.false _ _ _ _ q.0 q.1.0 q.1.1 c.requires.count_value
    c.call-called.result _
    c.call-called.ensures _ c.first_refused.ensures
