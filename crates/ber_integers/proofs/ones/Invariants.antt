use Prim.Native.Nat.{◌+◌, ◌^◌}
use mathlib.Core.Path.{◌≡◌}
use Rattle.ber_integers.proofs.ones.Given as goal

-- one more than the number so far is the power
abbrev pub invariant-loop : goal.invariant-loop
invariant-loop l = l.acc + 1 ≡ 256 ^ l.counter
