use Prim.Native.Nat.{◌≤◌, ◌+◌, ◌*◌}
use mathlib.Core.Path.{◌≡◌}
use lib.ListN.{length, drop}
use Rattle.sheet_rules.specs.Sheet.{breaks}
use Rattle.base_output.specs.Output.{wrote}
use Rattle.sheet_rules.proofs.emit_lines.Given as goal

-- The invariant: what is left of the slice, written from here, leaves what the whole leaves.
abbrev pub invariant-loop-b : goal.invariant-loop-b
invariant-loop-b l =
    (l.next ≤ l.at + 3 * l.b-index) × ((length l.out ≡ length l.initial.out) ×
    (wrote l.initial.out l.at (breaks l.s) ≡ wrote l.out l.next (breaks (drop l.b-index l.s))))
