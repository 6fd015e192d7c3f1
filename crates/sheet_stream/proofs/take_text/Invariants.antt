use Rattle.sheet_stream.proofs.Steps.{Goes}
use Rattle.sheet_stream.specs.Steps.{bytes_from, Sound}
use Rattle.std.specs.Prelude.{IfSome}
use Rattle.sheet_stream.proofs.Lines.{number}
use lib.ListN.{length, drop}
use mathlib.Core.Path.{◌≡◌}
use Prim.Native.Nat.{◌<◌}
use Rattle.sheet_stream.proofs.take_text.Given as goal

abbrev pub invariant-loop-b : goal.invariant-loop-b
invariant-loop-b l = IfSome l.first (λ h. h < 16) × ((length l.store ≡ length l.initial.store) × (Sound l.tally l.store × ((l.tally.refused ≡ 0)
    × Goes (bytes_from 16 l.text) l.initial.store l.tally l.store (bytes_from (number l.first) (drop l.b-index l.text)))))
