use Prim.Native.Nat.{◌<◌, ◌^◌}
use Rattle.sheet_reader.proofs.Desks.{size-most, first_rows, mode-is, tells-not, tells-long, tells-opened}
use Rattle.sheet_entries.proofs.Members.{sheet-some}
use lib.Seq.{length-take-le}
use mathlib.Core.Path.{sym, ◌∙◌}
use native.Mathlib.Omega.{arith}
use borrow.Author.Rules.{rules}
use Rattle.sheet_reader.proofs.of_entries.Goals as goal

pub slice_bounds-is_sheet-end : goal.slice_bounds-is_sheet-end
slice_bounds-is_sheet-end c = sym (length-take-le _ _ c.requires.path_len.1.1.1.1)

pub returns-then-not-is_sheet : goal.returns-then-not-is_sheet
returns-then-not-is_sheet c = tells-not _ _ _ (first_rows _ _ _ _ (c.is_sheet.ensures c.args.s.now ∙ c.if-not-is_sheet.true))

pub returns-then-n-gt16 : goal.returns-then-n-gt16
returns-then-n-gt16 c =
    let w = c.requires.path_len.1.1.1.1 in
    tells-long _ _ _ w (first_rows _ _ _ _ (c.is_sheet.ensures c.args.s.now ∙ c.if-not-is_sheet.false)) _ c.cell_at.ensures _ _
    c.path_of-n.ensures.taken c.if-n-gt16.true _ _

pub bounds-rows-0 : goal.bounds-rows-0
bounds-rows-0 c =
    let w = c.requires.path_len.1.1.1.1 in
    let a = c.args in
    let e = c.is_sheet.ensures a.s.now ∙ c.if-not-is_sheet.false in
    let k = sheet-some a.s.now a.rows.now a.count (first_rows _ _ _ _ e) in
    omega (arith, k, w)

pub slice_bounds-numbers-end : goal.slice_bounds-numbers-end
slice_bounds-numbers-end c = let k = c.if-n-gt16.false in let l = c.path_of-n.ensures.list_len in omega (arith, k, l)

pub slice_bounds-of_desk-end : goal.slice_bounds-of_desk-end
slice_bounds-of_desk-end c =
    let k = c.if-n-gt16.false in
    let l = c.path_of-n.ensures.list_len in
    sym (length-take-le c.path_of-n.result _ (omega (arith, k, l)))

pub slice_bounds-cells-end : goal.slice_bounds-cells-end
slice_bounds-cells-end c = let e = c.size-size.ensures in omega (arith, e, size-most c.figures_of-f.result)

pub slice_bounds-of_desk-end-2 : goal.slice_bounds-of_desk-end-2
slice_bounds-of_desk-end-2 c =
    let e = c.size-size.ensures in sym (length-take-le c.size-size.result _ (omega (arith, e, size-most c.figures_of-f.result)))

pub of_desk-requires : goal.of_desk-requires
of_desk-requires c =
    let k = c.if-n-gt16.false in
    let l = c.path_of-n.ensures.list_len in
    let t = length-take-le c.path_of-n.result c.path_of-n.new.list (omega (arith, k, l)) in
    let e = c.size-size.ensures in
    let m = size-most c.figures_of-f.result in
    let p = c.requires.path_len.0 in record {
      cells_len = (length-take-le c.size-size.result _ (omega (arith, e, m)) ∙ sym e, c.requires.path_len.1.1);
      count_value = c.requires.count_value;
      numbers_in_bounds = (omega (arith, k, t, p), omega (arith, m, c.requires.path_len.1.0));
    }

pub returns : goal.returns
returns c =
    let mode-fits : c.number_of-mode.result < 2 ^ 64 = search rules in
    let w = c.requires.path_len.1.1.1.1 in
    tells-opened _ _ _ w (first_rows _ _ _ _ (c.is_sheet.ensures c.args.s.now ∙ c.if-not-is_sheet.false)) _ c.cell_at.ensures _ _
    c.path_of-n.ensures.taken c.if-n-gt16.false
    _ _ c.figures_of-f.ensures (mode-is c.args.rows.now _ _ c.cell_at-2.ensures c.number_of-mode.ensures mode-fits) _ _
    c.of_desk.result c.of_desk.new.path c.of_desk.new.crosspoints c.of_desk.ensures
