use mathlib.Core.Path.{◌≡◌, ap}
use native.Mathlib.Omega.{arith}
use lib.ListN.{length, drop}
use Rattle.ber_identifiers.specs.Identifier.{oid_octets}
use Rattle.ber_identifiers.proofs.Laws.{size-more, octets-done}
use Rattle.ber_identifiers.proofs.oid_size.Goals as goal

pub loop-n-init : goal.loop-n-init
loop-n-init c = record { small = omega arith; rest = omega arith }

pub overflow_add-total : goal.overflow_add-total
overflow_add-total c = omega arith

pub loop-n-preserved : goal.loop-n-preserved
loop-n-preserved c =
    let m = size-more c.args.ns.now c.loop-n.n-index c.loop-n-test.true in
    record { small = omega arith; rest = omega (arith, m, c.number_size-total.ensures.value, c.loop-n.invariant.rest) }

pub returns : goal.returns
returns c =
    let d : length (oid_octets (drop c.loop-n.n-index c.args.ns.now)) ≡ 0 = ap length (octets-done c.args.ns.now c.loop-n.n-index c.loop-n-test.false) in
    omega (arith, c.loop-n.invariant.rest)
