use Prim.Native.Nat.{◌≤◌, ◌<◌, ◌+◌, ◌%◌}
use mathlib.Core.Path.{◌≡◌, sym, ◌∙◌}
use native.Mathlib.Omega.{arith}
use mathlib.Core.List.{[], ◌∷◌, ◌++◌}
use lib.ListN.{length, take, drop}
use Rattle.ber_integers.specs.Digits.{digits}
use Rattle.ber_integers.proofs.Laws.{put-out, put_in, fill_start, fill_step, fill_done, digits-start, digits_step, digits-done}
use Rattle.ber_integers.proofs.Radix.{length_digits}
use Rattle.ber_integers.proofs.write_octets.Goals as goal

pub returns-in_err-held : goal.returns-in_err-held
returns-in_err-held c =
    rw c.from_residual.ensures (put-out _ _ _ (rw (length_digits 256 (omega arith) c.args.n c.args.v) c.in_err-held.ensures))

pub loop-i-init : goal.loop-i-init
loop-i-init c = let a = c.args in record { tail = []; left = digits-start 256 a.n a.v; placed = fill_start a.out.now a.at a.n }

pub loop-i-preserved : goal.loop-i-preserved
loop-i-preserved c =
    let l = c.loop-i in
    let a = c.args in
    let h : 0 < l.i = omega arith in
    let w = c.in_ok-held.ensures.0 in
    let k : a.at + l.i ≤ length a.out.now = omega arith in record {
      tail = l.r % 256 ∷ l.invariant.tail;
      left = sym (digits_step 256 l.i l.r l.invariant.tail h) ∙ l.invariant.left;
      placed = rw (c.low.ensures, l.invariant.placed)
          (fill_step a.out.now a.at l.i (l.r % 256) l.invariant.tail (drop (a.at + a.n) a.out.now) h k);
    }

pub returns : goal.returns
returns c =
    let l = c.loop-i in
    let a = c.args in
    let z : l.i ≡ 0 = omega arith in
    let n : length (digits 256 a.n a.v) ≡ a.n = length_digits 256 (omega arith) a.n a.v in
    let t : l.invariant.tail ≡ digits 256 a.n a.v = digits-done 256 l.i l.r l.invariant.tail z ∙ l.invariant.left in
    let o : l.out ≡ take a.at a.out.now ++ (digits 256 a.n a.v ++ drop (a.at + a.n) a.out.now) =
    l.invariant.placed ∙ rw (z, t) (fill_done a.out.now a.at (digits 256 a.n a.v) (drop (a.at + a.n) a.out.now)) in
    put_in a.out.now a.at (digits 256 a.n a.v) (rw n c.in_ok-held.ensures.0) ∙ rw (n, o)
