use Prim.Native.Nat.{ℕ, ◌^◌}
use mathlib.Core.Path.{◌≡◌, sym, ap}
use native.Mathlib.Omega.{arith}
use Rattle.ber_reals.proofs.power_of_256.Goals as goal

-- `ber_reals::power_of_256` meets its contract. Assumes nothing.
pub returns-then-e-eq1 : goal.returns-then-e-eq1
returns-then-e-eq1 c = sym (ap (λ (e : ℕ). 256 ^ e) c.if-e-eq1.true)

pub returns-then-e-eq2 : goal.returns-then-e-eq2
returns-then-e-eq2 c = sym (ap (λ (e : ℕ). 256 ^ e) c.if-e-eq2.true)

pub returns : goal.returns
returns c =
    let e : c.args.e ≡ 3 = omega (arith, c.if-e-eq1.false, c.if-e-eq2.false) in
    sym (ap (λ (e : ℕ). 256 ^ e) e)
