use Rattle.std.specs.Prelude.{Some}
use Prim.Native.Nat.{ℕ, ◌+◌}
use mathlib.Core.Path.{◌≡◌}
use mathlib.Core.List.{List, ◌++◌}
use lib.ListN.{length}
use Rattle.ber_integers.specs.Digits.{put, outcome}
use Rattle.ber_identifiers.specs.Identifier.{oid_octets}
use Rattle.ber_identifiers.proofs.write_oid.Given as goal

-- the octets of the last numbers stand at the end of the part
abbrev pub invariant-loop-n : goal.invariant-loop-n
invariant-loop-n l = record {
  done : List ℕ;
  split : l.n-iterator.iter.rest.now ++ done ≡ l.ns;
  size : l.p + length (oid_octets done) ≡ l.end;
  placed : put l.initial.out l.p (oid_octets done) ≡ outcome (Some l.end) l.out;
}
