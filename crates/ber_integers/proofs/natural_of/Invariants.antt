use Prim.Native.Nat.{◌<◌, ◌^◌}
use mathlib.Core.Path.{◌≡◌}
use lib.ListN.{drop}
use Rattle.ber_integers.specs.Digits.{horner, natural}
use Rattle.ber_integers.proofs.natural_of.Given as goal

-- the number so far, with the octets left, is the whole; and it has a digit for each octet passed
abbrev pub invariant-loop-b : goal.invariant-loop-b
invariant-loop-b l = record {
  below : l.acc < 256 ^ l.b-index;
  rest : horner 256 l.acc (drop l.b-index l.octets) ≡ natural l.octets;
}
