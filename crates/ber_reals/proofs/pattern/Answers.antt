use Prim.Native.Nat.{ℕ, ◌-◌, ◌*◌, ◌^◌}
use mathlib.Core.Path.{◌≡◌, ap}
use native.Mathlib.Omega.{arith}
use lib.Ieee.{size}
use Rattle.ber_reals.proofs.Odd.{size-under}
use Rattle.ber_reals.proofs.Patterns.{sign_le, bits-low, bits-high}
use Rattle.ber_reals.proofs.pattern.Goals as goal

pub overflow_add-result : goal.overflow_add-result
overflow_add-result c =
    let a = c.args in
    let s = sign_le a.negative in
    let b = size-under a.m a.units 53 (omega arith) in
    omega arith

pub returns-then-digits-units-le53 : goal.returns-then-digits-units-le53
returns-then-digits-units-le53 c =
    let a = c.args in
    let l = bits-low a.negative a.m a.units (omega arith) (omega arith) in
    let b = size-under a.m a.units 53 (omega arith) in
    omega arith

pub overflow_add-result-2 : goal.overflow_add-result-2
overflow_add-result-2 c =
    let s = sign_le c.args.negative in
    omega arith

pub overflow_add-result-3 : goal.overflow_add-result-3
overflow_add-result-3 c =
    let a = c.args in
    let s = sign_le a.negative in
    let b = size-under a.m (53 - c.bits-digits.result) 53 (omega arith) in
    omega arith

pub returns : goal.returns
returns c =
    let a = c.args in
    let b = size-under a.m (53 - c.bits-digits.result) 53 (omega arith) in
    let l = bits-high a.negative a.m a.units (omega arith) (omega arith) (omega arith) in
    let e : a.m * 2 ^ (53 - c.bits-digits.result) ≡ a.m * 2 ^ (53 - size a.m) = ap (λ (x : ℕ). a.m * 2 ^ (53 - x)) c.bits-digits.ensures in
    omega arith
