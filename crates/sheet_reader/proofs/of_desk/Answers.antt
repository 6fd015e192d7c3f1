use Rattle.sheet_reader.proofs.Desks.{tells-by}
use native.Mathlib.Omega.{arith}
use Rattle.sheet_reader.proofs.of_desk.Goals as goal

pub apply-number-requires : goal.apply-number-requires
apply-number-requires c = record { cells_len = c.requires.cells_len; count_value = c.requires.count_value }

pub hand_over-requires : goal.hand_over-requires
hand_over-requires c =
    let p = c.requires.numbers_in_bounds in
    let k = c.apply-number.auto.cells in
    (p.0, omega (arith, k, c.requires.cells_len.0, p.1))

pub returns : goal.returns
returns c =
    tells-by _ _ c.apply-number.ensures c.args.path.now c.args.crosspoints.now
    c.hand_over.result c.hand_over.new.path c.hand_over.new.crosspoints c.hand_over.ensures
