use Prim.Native.Nat.{◌<◌, ◌/◌}
use mathlib.Core.Path.{◌≡◌}
use native.Mathlib.Omega.{arith}
use native.Mathlib.Nat.{div-lt_self}
use Rattle.ber_integers.proofs.Laws.{count_none, count-more}
use Rattle.ber_integers.proofs.digit_count.Goals as goal

pub loop-r-init : goal.loop-r-init
loop-r-init c = (omega arith, (c.args.v, (omega arith, omega arith)))

pub nonzero_div-r : goal.nonzero_div-r
nonzero_div-r c = omega arith

pub overflow_add-n : goal.overflow_add-n
overflow_add-n c = omega arith

pub loop-r-smaller : goal.loop-r-smaller
loop-r-smaller c = div-lt_self c.loop-r-test.true c.requires

pub loop-r-preserved : goal.loop-r-preserved
loop-r-preserved c =
    let l = c.loop-r in
    let q = count-more c.args.base l.invariant.1.0 l.r c.requires l.invariant.1.1.0 c.loop-r-test.true in
    let d : l.r / c.args.base < l.r = div-lt_self c.loop-r-test.true c.requires in
    (omega arith, (q.0, (q.1.0, omega (arith, q.1.1, l.invariant.1.1.1))))

pub returns : goal.returns
returns c =
    let l = c.loop-r in let z : l.r ≡ 0 = omega arith in
    omega (arith, count_none c.args.base l.invariant.1.0 l.r z, l.invariant.1.1.1)
