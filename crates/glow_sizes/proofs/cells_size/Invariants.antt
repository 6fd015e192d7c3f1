use Rattle.glow_sizes.proofs.Cells.{Sum}
use Rattle.glow_member_sizes.specs.Spelling.{spelling}
use Rattle.glow_sizes.specs.Kept.{RulesIn}
use lib.ListN.{get_or}
use mathlib.Core.List.{[]}
use Prim.Native.Nat.{ℕ, ◌-◌, ◌*◌, ◌≤◌}
use Rattle.glow_sizes.proofs.cells_size.Given as goal

abbrev pub invariant-loop-c : goal.invariant-loop-c
invariant-loop-c l = (l.from ≤ l.c)
    × ((l.c ≤ 16)
    × ((l.total ≤ 65536 * (16 - l.c)) × ((kind : ℕ) → RulesIn kind l.rules → Sum (spelling l.least) kind l.s (get_or l.rows l.i []) l.to l.c l.total)))
