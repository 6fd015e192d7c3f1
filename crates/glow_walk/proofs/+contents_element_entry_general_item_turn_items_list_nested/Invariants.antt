use Prim.Native.Nat.{◌+◌, ◌-◌, ◌*◌}
use lib.ListN.{length}
use Rattle.glow_walk.proofs.Loops.{ElementLoop, ItemsLoop}
use Rattle.glow_walk.proofs.+contents_element_entry_general_item_turn_items_list_nested.Given as goal

abbrev pub decreases-contents : goal.decreases-contents
decreases-contents l = 4 * (length l.s.now - l.from) + 4

abbrev pub decreases-element : goal.decreases-element
decreases-element l = 4 * (length l.s.now - l.from) + 3

abbrev pub decreases-entry : goal.decreases-entry
decreases-entry l = 4 * (length l.s.now - l.from) + 4

abbrev pub decreases-general : goal.decreases-general
decreases-general l = 4 * (length l.s.now - l.at.place) + 1

abbrev pub decreases-item_turn : goal.decreases-item_turn
decreases-item_turn l = 4 * (length l.s.now - l.at.place) + 2

abbrev pub decreases-items : goal.decreases-items
decreases-items l = 4 * (length l.s.now - l.from) + 3

abbrev pub decreases-list : goal.decreases-list
decreases-list l = 4 * (length l.s.now - l.from) + 4

abbrev pub decreases-nested : goal.decreases-nested
decreases-nested l = 4 * (length l.s.now - l.at.place) + 2

abbrev pub invariant-element-loop-o : goal.invariant-element-loop-o
invariant-element-loop-o l = ElementLoop l.s l.o l.k l.row l.me l.above l.from l.n l.initial.table l.table l.at

abbrev pub decreases-element-loop-o : goal.decreases-element-loop-o
decreases-element-loop-o l = length l.s - l.at.place

abbrev pub invariant-items-loop-next : goal.invariant-items-loop-next
invariant-items-loop-next l = ItemsLoop l.s l.o l.k l.which l.parent l.above l.from l.n l.initial.table l.table l.at

abbrev pub decreases-items-loop-next : goal.decreases-items-loop-next
decreases-items-loop-next l = length l.s - l.at.place
