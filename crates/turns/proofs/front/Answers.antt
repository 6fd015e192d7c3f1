use Prim.Native.Nat.{◌≤◌}
use native.Mathlib.Omega.{arith}
use Rattle.turns.proofs.Steps.{front-all}
use Rattle.turns.proofs.front.Goals as goal

pub returns : goal.returns
returns c = let k : lib.ListN.length c.args.store.now ≤ c.args.n = omega arith in record { store_value = front-all _ _ k; upper_bound = omega arith }
