use Prim.Native.Nat.{◌+◌, ◌-◌, ◌*◌, ◌≤◌}
use lib.ListN.{length}
use mathlib.Core.List.{List}
use mathlib.Core.Path.{◌≡◌}
use Prim.Native.Nat.{ℕ}
use Rattle.glow_writer.specs.Puts.{ItemsBy}
use Rattle.glow_writer.specs.declared.write.Placed.{Placed}
use Rattle.glow_writer.proofs.write.+put_inside_put_item_put_items.Given as goal

abbrev pub decreases-put_inside : goal.decreases-put_inside
decreases-put_inside l = (l.count - l.start) * 3 + 3

abbrev pub decreases-put_item : goal.decreases-put_item
decreases-put_item l = (l.count - l.i) * 3 + 1

abbrev pub decreases-put_items : goal.decreases-put_items
decreases-put_items l = (l.count - l.start) * 3 + 2

abbrev pub invariant-put_items-loop-i : goal.invariant-put_items-loop-i
invariant-put_items-loop-i l =
    (l.start ≤ l.i) × ((l.i ≤ l.count) × ((length l.out ≡ length l.initial.out) × ((r : Placed) (o' : List ℕ)
    → ItemsBy l.s l.rows l.count l.which l.parent l.i l.out l.p r o'
    → ItemsBy l.s l.rows l.count l.which l.parent l.start l.initial.out l.at r o')))

abbrev pub decreases-put_items-loop-i : goal.decreases-put_items-loop-i
decreases-put_items-loop-i l = l.count - l.i
