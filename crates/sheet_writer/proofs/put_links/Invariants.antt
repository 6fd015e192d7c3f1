use Prim.Native.Nat.{◌≤◌, ◌+◌, ◌-◌, ◌*◌}
use mathlib.Core.Path.{◌≡◌}
use lib.ListN.{length}
use Rattle.desk_crosspoints.specs.Figures.{side}
use Rattle.sheet_writer.specs.Steps.{filled, with_links}
use Rattle.sheet_writer.proofs.put_links.Given as goal

-- The invariant: the targets that are left, filled in from here, leave what all of them leave.
abbrev pub invariant-loop-t : goal.invariant-loop-t
invariant-loop-t l = (l.next ≤ l.at + l.t * side)
    × ((length l.rows ≡ length l.initial.rows)
    × ((length l.octets ≡ length l.initial.octets)
    × (with_links l.w l.cells 0 l.targets (filled l.initial.rows l.initial.octets l.at) ≡ with_links l.w l.cells l.t (l.targets - l.t)
    (filled l.rows l.octets l.next))))
