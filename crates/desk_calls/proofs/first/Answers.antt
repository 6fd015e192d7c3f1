use Prim.Native.Nat.{ℕ}
use mathlib.Core.Path.{◌≡◌, refl}
use mathlib.Core.List.{List, [], ◌∷◌}
use lib.ListN.{get_or}
use Rattle.std.specs.List.{slice_get}
use Rattle.std.specs.Option.{unwrap_or}
use Rattle.desk_calls.proofs.first.Goals as goal

first-or : (l : List ℕ) → get_or l 0 0 ≡ unwrap_or (slice_get l 0) 0
first-or [] = refl
first-or (x ∷ xs) = refl

pub returns : goal.returns
returns c = let e = first-or c.args.sources.now in let f = c.first.ensures.value in cc
