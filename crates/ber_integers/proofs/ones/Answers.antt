use Prim.Native.Nat.{ℕ, suc, ◌≤◌, ◌<◌, ◌+◌, ◌*◌, ◌^◌}
use mathlib.Core.Path.{◌≡◌, ap}
use native.Mathlib.Omega.{arith}
use native.Mathlib.Nat.{pow-suc}
use Rattle.ber_integers.proofs.Radix.{seven}
use Rattle.ber_integers.proofs.ones.Goals as goal

room : {i n acc : ℕ} → i < n → n ≤ 8 → acc + 1 ≡ 256 ^ i → acc < 256 ^ 7
room {i} h k e = seven h k (omega arith)

pub overflow_mul-acc : goal.overflow_mul-acc
overflow_mul-acc c = let k = room c.loop-test.true c.requires c.loop.invariant in omega arith

pub overflow_add-acc : goal.overflow_add-acc
overflow_add-acc c = let k = room c.loop-test.true c.requires c.loop.invariant in omega arith

pub loop-preserved : goal.loop-preserved
loop-preserved c =
    let e : c.loop.counter + 1 ≡ suc c.loop.counter = omega arith in
    let d : (c.loop.acc + 1) * 256 ≡ 256 ^ c.loop.counter * 256 = ap (λ (x : ℕ). x * 256) c.loop.invariant in
    rw (e, pow-suc) (omega arith)

pub returns : goal.returns
returns c = let e : c.args.n ≡ c.loop.counter = omega arith in rw e c.loop.invariant
