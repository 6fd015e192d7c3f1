use Rattle.sheet_reader.proofs.Desks.{hands-refused, hands-desk}
use Prim.Native.Nat.{ℕ}
use mathlib.Core.List.{List, ◌++◌}
use mathlib.Core.Path.{ap}
use lib.ListN.{length, drop}
use native.Mathlib.Omega.{arith}
use Rattle.sheet_reader.proofs.hand_over.Goals as goal

pub returns-then-number-ne0 : goal.returns-then-number-ne0
returns-then-number-ne0 c =
    hands-refused c.args.number c.args.f c.args.numbers.now c.args.cells.now _ _
    (λ e. omega (arith, e, c.if-number-ne0.true))

pub returns : goal.returns
returns c =
    hands-desk c.args.number c.args.f c.args.numbers.now c.args.cells.now _ _
    (omega (arith, c.if-number-ne0.false)) _ _
    (ap (λ (l : List ℕ). l ++ drop (length c.args.numbers.now) c.args.path.now) c.copy_from_slice.ensures.after)
    (ap (λ (l : List ℕ). l ++ drop (length c.args.cells.now) c.args.crosspoints.now) c.copy_from_slice-2.ensures.after)
