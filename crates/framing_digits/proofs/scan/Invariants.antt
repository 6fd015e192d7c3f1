use Prim.Native.Nat.{◌≤◌, ◌<◌}
use mathlib.Core.Path.{◌≡◌}
use lib.ListN.{length, drop}
use Rattle.std.specs.Prelude.{IfSome}
use Rattle.framing_digits.specs.Lines.{scanned}
use Rattle.framing_digits.proofs.scan.Given as goal

abbrev pub invariant-loop-i : goal.invariant-loop-i
invariant-loop-i l = (l.count ≤ l.i) × (l.count ≤ length l.block) × IfSome l.high (λ h. h < 16) × (length l.chunk ≡ length l.initial.chunk)
    × (scanned (drop l.from l.block) l.from l.initial.high l.initial.begun l.initial.chunk 0 ≡ scanned (drop l.i l.block) l.i l.high l.begun l.chunk l.count)
    × (length l.block ≤ l.from → l.i ≤ l.from)
