use Prim.Native.Nat.{◌≤◌, ◌-◌}
use mathlib.Core.Path.{◌≡◌}
use lib.ListN.{take, drop}
use Rattle.ber_identifiers.specs.Identifier.{arc_from}
use Rattle.ber_identifiers.proofs.read_number.Given as goal

abbrev pub invariant-loop-i : goal.invariant-loop-i
invariant-loop-i l = record {
  small : l.acc ≤ 2147483648;
  rest : arc_from l.acc l.i (take (l.end - l.i) (drop l.i l.s)) ≡ arc_from 0 l.p (take (l.end - l.p) (drop l.p l.s));
}
