use Prim.Native.Nat.{◌+◌, ◌*◌, ◌≤◌}
use mathlib.Core.Path.{◌≡◌}
use lib.ListN.{length}
use Rattle.framing_packets.specs.Written.{in_packets, packets, earlier}
use Rattle.base_output.specs.Output.{wrote}
use Rattle.framing_writer.proofs.emit_message.Given as goal

-- The invariant: the packets that are left, written from here, leave what all of them leave.
abbrev pub invariant-loop-rest : goal.invariant-loop-rest
invariant-loop-rest l = (l.at + 3 * length l.rest ≤ 3 * length l.message) × (length l.out ≡ length l.initial.out)
    × (wrote l.initial.out 0 (in_packets l.message) ≡ wrote l.out l.at (packets (earlier (length l.rest)) l.first l.rest))

abbrev pub decreases-loop-rest : goal.decreases-loop-rest
decreases-loop-rest l = length l.rest
