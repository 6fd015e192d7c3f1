use Prim.Native.Nat.{◌<◌, ◌+◌, ◌-◌, ◌^◌}
use mathlib.Core.Path.{◌≡◌}
use Rattle.ber_tags.specs.Tag.{long_number}
use Rattle.ber_tags.proofs.long_number.Given as goal

-- the number so far has a digit for each octet passed; and the rest, read from here, is the whole
abbrev pub invariant-loop-p : goal.invariant-loop-p
invariant-loop-p l = record {
  below : l.acc < 128 ^ (l.p - (l.at + 1));
  rest : long_number l.s l.at l.bound (l.at + 5 - l.p) l.acc l.p ≡ long_number l.s l.at l.bound 4 0 (l.at + 1);
}
