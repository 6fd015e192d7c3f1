use Prim.Native.Nat.{◌≤◌, ◌<◌}
use native.Mathlib.Omega.{arith}
use Rattle.ber_integers.proofs.Laws.{size_small, size-more}
use Rattle.ber_integers.proofs.size_of.Goals as goal

pub loop-r-init : goal.loop-r-init
loop-r-init c = (omega arith, (c.args.m, (omega arith, omega arith)))

pub overflow_add-n : goal.overflow_add-n
overflow_add-n c = omega arith

pub loop-r-smaller : goal.loop-r-smaller
loop-r-smaller c = omega arith

pub loop-r-preserved : goal.loop-r-preserved
loop-r-preserved c =
    let l = c.loop-r in
    let h : 128 ≤ l.r = omega arith in
    let q = size-more l.invariant.1.0 l.r l.invariant.1.1.0 h in
    (omega arith, (q.0, (q.1.0, omega (arith, q.1.1, l.invariant.1.1.1))))

pub returns : goal.returns
returns c =
    let l = c.loop-r in
    let h : l.r < 128 = omega arith in
    omega (arith, size_small l.invariant.1.0 l.r h, l.invariant.1.1.1)
