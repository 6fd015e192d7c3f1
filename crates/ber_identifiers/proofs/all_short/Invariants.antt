use Prim.Native.Nat.{ℕ}
use mathlib.Core.Path.{◌≡◌}
use lib.Dec.{ltb}
use lib.ListN.{take}
use Rattle.std.specs.List.{list_all}
use Rattle.ber_identifiers.proofs.all_short.Given as goal

abbrev pub invariant-loop-b : goal.invariant-loop-b
invariant-loop-b l = list_all (λ (b : ℕ). ltb b 128) (take l.b-index l.octets) ≡ ltb l.most 128
