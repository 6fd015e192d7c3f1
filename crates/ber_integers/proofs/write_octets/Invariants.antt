use Prim.Native.Nat.{ℕ, ◌+◌}
use mathlib.Core.Path.{◌≡◌}
use mathlib.Core.List.{List, ◌++◌}
use lib.ListN.{take, drop}
use Rattle.ber_integers.specs.Digits.{digits}
use Rattle.ber_integers.proofs.write_octets.Given as goal

-- the low digits stand at the end of the part
abbrev pub invariant-loop-i : goal.invariant-loop-i
invariant-loop-i l = record {
  tail : List ℕ;
  left : digits 256 l.i l.r ++ tail ≡ digits 256 l.n l.v;
  placed : l.out ≡ take (l.at + l.i) l.initial.out ++ (tail ++ drop (l.at + l.n) l.initial.out);
}
