use Prim.Native.Nat.{ℕ, ◌+◌, ◌≤◌, ◌<◌}
use mathlib.Core.Path.{◌≡◌, refl}
use mathlib.Core.Bool.{Bool, true, false}
use native.Mathlib.Omega.{arith}
use lib.ListN.{length}
use lib.Ieee.{minus}
use Rattle.ber_integers.specs.Digits.{put, unchanged}
use Rattle.ber_reals.specs.Write.{first_octet, number_octets}
use Rattle.ber_real_writer.proofs.Puts.{number_short, number-puts}
use Rattle.ber_real_writer.proofs.write_number.Goals.{After-octets_of-n}
use Rattle.ber_real_writer.proofs.write_number.Goals as goal

-- `ber_real_writer::write_number` meets its contract. Assumes nothing.
first-lt : (s : Bool) (k : ℕ) → k ≤ 2 → first_octet s k < 256
first-lt true k h = omega arith
first-lt false k h = omega arith

-- the counts are known, and the output is too short for them
module _ (c : After-octets_of-n) where
  short : length c.args.out.now < c.args.at + (1 + c.exponent-e.result.count + c.octets_of-n.result)
      → put c.args.out.now c.args.at (number_octets c.args.negative c.args.m (minus c.args.units 1074))
      ≡ unchanged c.args.out.now
  short h =
      let a = c.args in
      let e = c.exponent-e in
      let k = e.result.count in
      number_short a.negative a.m a.units e.result.value k c.octets_of-n.result (first_octet a.negative k) e.ensures.value_value
      c.octets_of-n.ensures.value refl (first-lt a.negative k (omega arith)) a.out.now a.at h

pub returns-then-out-total : goal.returns-then-out-total
returns-then-out-total c = short (goal.at.returns-then-out-total c).After-octets_of-n (omega arith)

pub returns-then-out-total-2 : goal.returns-then-out-total-2
returns-then-out-total-2 c = short (goal.at.returns-then-out-total-2 c).After-octets_of-n (omega arith)

pub returns : goal.returns
returns c =
    let a = c.args in
    let e = c.exponent-e in
    let o = c.octets_of-n in
    let f = c.first_octet in
    let x = c.write_octets in
    let y = c.write_octets-2 in
    let z = c.write_octets-3 in
    let room : a.at + (1 + e.result.count + o.result) ≤ length a.out.now = omega (arith, c.if-out-total.false, c.if-out-total-2.false) in
    number-puts a.negative a.m a.units e.result.value e.result.count o.result f.result e.ensures.value_value o.ensures.value
    f.ensures.value f.ensures.upper_bound a.out.now a.at room x.result y.result z.result x.new.out y.new.out z.new.out
    x.ensures x.auto.out y.ensures z.ensures
