use Rattle.desk_crosspoints.specs.Crosspoints.{count}
use mathlib.Core.Path.{◌≡◌}
use Prim.Native.Nat.{◌+◌}
use Rattle.std.specs.Slice.Iter.{chunks_rest, chunks_size}
use Rattle.desk_crosspoints.proofs.count.Given as goal

abbrev pub invariant-loop-part : goal.invariant-loop-part
invariant-loop-part l = (count l.cells ≡ l.n + count (chunks_rest l.part-iterator)) × (chunks_size l.part-iterator ≡ 192)
