use Rattle.glow_paths.specs.Paths.{numbers_in, Left}
use lib.ListN.{length, take}
use Prim.Native.Nat.{ℕ, ◌-◌, ◌≤◌}
use mathlib.Core.List.{List, ◌++◌}
use mathlib.Core.Path.{◌≡◌}
use Rattle.sheet_entries.proofs.numbers_of.Given as goal

abbrev pub invariant-loop-p : goal.invariant-loop-p
invariant-loop-p l = (xs : List ℕ)
    × (Left l.octets l.p l.end xs × ((take l.k l.list ++ xs ≡ numbers_in l.octets) × ((length l.list ≡ length l.initial.list) × (l.k ≤ 16))))

abbrev pub decreases-loop-p : goal.decreases-loop-p
decreases-loop-p l = l.end - l.p
