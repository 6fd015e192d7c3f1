use mathlib.Core.Path.{◌≡◌}
use mathlib.Core.List.{List}
use Prim.Native.Nat.{ℕ}
use lib.ListN.{drop}
use Rattle.glow_paths.specs.Paths.{same, numbers_in, Left}
use Rattle.glow_paths.proofs.same_numbers.Given as goal

abbrev pub invariant-loop-number : goal.invariant-loop-number
invariant-loop-number l =
    (xs : List ℕ) × (Left l.octets l.p l.end xs × (same (numbers_in l.octets) l.path ≡ same xs (drop l.number-index l.path)))
