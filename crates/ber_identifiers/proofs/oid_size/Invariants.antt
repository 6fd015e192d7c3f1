use Prim.Native.Nat.{◌≤◌, ◌+◌, ◌*◌}
use mathlib.Core.Path.{◌≡◌}
use lib.ListN.{length, drop}
use Rattle.ber_identifiers.specs.Identifier.{oid_octets}
use Rattle.ber_identifiers.proofs.oid_size.Given as goal

abbrev pub invariant-loop-n : goal.invariant-loop-n
invariant-loop-n l = record {
  small : l.total ≤ 10 * l.n-index;
  rest : l.total + length (oid_octets (drop l.n-index l.ns)) ≡ length (oid_octets l.ns);
}
