-- With which numbers the call answers, whatever is handed in.
use Prim.Native.Nat.{ℕ}
use mathlib.Core.List.{List}
use types.Run.{OneOf, hit}
use lib.Dec.{leb}
use lib.ListN.{length}
use Rattle.base_choices.proofs.Laws.{pick-by}
use Rattle.framing_packets.specs.Written.{Outcome, into}
use Rattle.desk_crosspoints.specs.Desk.{Desk, desk_legal}
use Rattle.sheet_rules.specs.Sheet.{sheet_of}
use Rattle.sheet_writer.specs.Calls.{writes_sheet}
use Rattle.sheet_writer.specs.Numbers.{sheet_put_numbers}

-- `write`: 0, 1 or 46
pub sheet-put-numbers : (d : Desk) (out : List ℕ) → OneOf sheet_put_numbers (writes_sheet d out).number
unfolding writes_sheet into
sheet-put-numbers d out =
    pick-by (λ (x : Outcome). OneOf sheet_put_numbers x.number) (desk_legal d)
    (λ e.
    pick-by (λ (x : Outcome). OneOf sheet_put_numbers x.number) (leb (length (sheet_of d)) (length out))
    (λ k. hit sheet_put_numbers 0 tt) (λ k. hit sheet_put_numbers 46 tt))
    (λ e. hit sheet_put_numbers 1 tt)
