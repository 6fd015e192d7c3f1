use Prim.Native.Nat.{◌≤◌, ◌+◌, ◌*◌}
use mathlib.Core.Path.{◌≡◌}
use lib.ListN.{length, drop}
use Rattle.base_hex.specs.Digits.{hex_text}
use Rattle.base_output.specs.Output.{wrote}
use Rattle.framing_lines.proofs.put_hex.Given as goal

abbrev pub invariant-loop-b : goal.invariant-loop-b
invariant-loop-b l =
    (l.next ≤ l.at + 2 * l.b-index) × (length l.out ≡ length l.initial.out)
    × (wrote l.initial.out l.at (hex_text l.s) ≡ wrote l.out l.next (hex_text (drop l.b-index l.s)))
