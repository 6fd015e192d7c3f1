use Prim.Native.Nat.{ℕ, ◌+◌}
use mathlib.Core.Path.{◌≡◌}
use mathlib.Core.List.{List, ◌++◌}
use lib.ListN.{take, drop}
use Rattle.ber_integers.specs.Digits.{digits}
use Rattle.ber_tags.specs.Write.{marked, septets}
use Rattle.ber_tag_writer.proofs.write_septets.Given as goal

-- the low groups stand at the end of the part
abbrev pub invariant-loop-i : goal.invariant-loop-i
invariant-loop-i l = record {
  tail : List ℕ;
  left : marked (digits 128 l.i l.r) ++ tail ≡ septets l.v;
  placed : l.out ≡ take (l.at + l.i) l.initial.out ++ (tail ++ drop (l.at + l.n + 1) l.initial.out);
}
