use mathlib.Core.Path.{◌≡◌}
use mathlib.Core.List.{List, ◌++◌}
use Prim.Native.Nat.{ℕ, ◌-◌}
use lib.ListN.{length, take}
use Rattle.desk_sources.specs.Gathered.{Kept}
use Rattle.glow_paths.specs.Paths.{numbers_in, Left}
use Rattle.desk_sources.proofs.Sources.{Alike}
use Rattle.desk_sources.proofs.gather.Given as goal

abbrev pub invariant-loop-p : goal.invariant-loop-p
invariant-loop-p l = (xs : List ℕ) × (Left l.octets l.p l.end xs × (Kept l.list l.marks l.k × (Alike (take l.k l.list ++ xs) (numbers_in l.octets)
    × ((length l.list ≡ length l.initial.list) × (length l.marks ≡ length l.initial.marks)))))

abbrev pub decreases-loop-p : goal.decreases-loop-p
decreases-loop-p l = l.end - l.p
