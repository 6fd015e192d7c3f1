use Prim.Native.Nat.{◌<◌}
use mathlib.Core.Path.{◌≡◌, refl, sym, ◌∙◌}
use native.Mathlib.Omega.{arith}
use lib.ListN.{length}
use Rattle.ber_integers.proofs.Laws.{horner-step, horner-done}
use Rattle.ber_integers.proofs.Radix.{digit-more, seven}
use Rattle.ber_integers.proofs.natural_of.Goals as goal

pub loop-b-init : goal.loop-b-init
loop-b-init c = record { below = omega arith; rest = refl }

pub overflow_mul-acc : goal.overflow_mul-acc
overflow_mul-acc c = let k = seven c.loop-b-test.true c.requires c.loop-b.invariant.below in omega arith

pub overflow_add-acc : goal.overflow_add-acc
overflow_add-acc c =
    let k = seven c.loop-b-test.true c.requires c.loop-b.invariant.below in
    let b : c.from.result < 256 = omega arith in
    omega arith

pub loop-b-preserved : goal.loop-b-preserved
loop-b-preserved c =
    let e = horner-step 256 c.loop-b.acc _ c.loop-b.b-index c.loop-b-test.true in record {
      below = digit-more 256 c.loop-b.b-index c.loop-b.invariant.below (omega arith);
      rest = rw c.from.ensures (sym e ∙ c.loop-b.invariant.rest);
    }

pub returns-clause-value : goal.returns-clause-value
returns-clause-value c = sym (horner-done 256 c.loop-b.acc _ c.loop-b.b-index c.loop-b-test.false) ∙ c.loop-b.invariant.rest

pub returns-clause-upper_bound : goal.returns-clause-upper_bound
returns-clause-upper_bound c =
    let i : length c.args.octets.now ≡ c.loop-b.b-index = omega arith in
    rw i c.loop-b.invariant.below
