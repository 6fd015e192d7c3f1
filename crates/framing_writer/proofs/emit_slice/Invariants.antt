use Prim.Native.Nat.{◌≤◌, ◌+◌, ◌*◌}
use mathlib.Core.Path.{◌≡◌}
use lib.ListN.{length, drop}
use Rattle.framing_packets.specs.Written.{escapes}
use Rattle.base_output.specs.Output.{wrote}
use Rattle.framing_writer.proofs.emit_slice.Given as goal

-- The invariant: what is left of the slice, written from here, leaves what the whole leaves.
abbrev pub invariant-loop-b : goal.invariant-loop-b
invariant-loop-b l = (l.next ≤ l.at + 2 * l.b-index) × (length l.out ≡ length l.initial.out)
    × (wrote l.initial.out l.at (escapes l.s) ≡ wrote l.out l.next (escapes (drop l.b-index l.s)))
