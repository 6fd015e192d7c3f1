use Prim.Native.Nat.{◌+◌}
use mathlib.Core.Path.{◌≡◌}
use mathlib.Core.List.{◌++◌}
use lib.ListN.{take, drop}
use Rattle.ber_value_writer.proofs.write_part.Given as goal

-- the octets from i on stand in their places
abbrev pub invariant-loop-i : goal.invariant-loop-i
invariant-loop-i l = l.out ≡ take (l.at + l.i) l.initial.out ++ (drop l.i (take l.len (drop l.start l.src)) ++ drop (l.at + l.len) l.initial.out)
