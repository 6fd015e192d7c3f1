use Prim.Native.Nat.{◌+◌, ◌*◌, ◌-◌}
use lib.ListN.{length}
use mathlib.Core.Path.{◌≡◌}
use Rattle.glow_member_sizes.specs.Spelling.{spelling}
use Rattle.glow_sizes.specs.Kept.{Noted}
use Rattle.glow_sizes.proofs.Trees.{Turn}
use Rattle.glow_sizes.proofs.+inside_items.Given as goal

abbrev pub decreases-inside : goal.decreases-inside
decreases-inside l = (l.count - l.start) * 2 + 1

abbrev pub decreases-items : goal.decreases-items
decreases-items l = (l.count - l.start) * 2

abbrev pub invariant-items-loop-i : goal.invariant-items-loop-i
invariant-items-loop-i l =
    Turn (spelling l.least) l.s l.rows l.count l.which l.parent l.start l.k l.above l.i l.total
    × ((length l.kept ≡ length l.initial.kept) × Noted (spelling l.least) l.s l.rows l.count l.start l.i l.initial.kept l.kept)

abbrev pub decreases-items-loop-i : goal.decreases-items-loop-i
decreases-items-loop-i l = l.count - l.i
