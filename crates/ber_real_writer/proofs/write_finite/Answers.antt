use Prim.Native.Nat.{ℕ, ◌+◌, ◌/◌, ◌%◌, ◌^◌}
use mathlib.Core.Path.{◌≡◌, sym, ap, ◌∙◌}
use native.Mathlib.Omega.{arith}
use lib.Ieee.{minus}
use lib.Count.{trailing_le}
use Rattle.ber_reals.specs.Number.{odd_part, halvings}
use Rattle.ber_reals.proofs.Odd.{halvings-lt}
use Rattle.ber_reals.proofs.Doubles.{odd_is}
use Rattle.ber_reals.specs.Write.{write_at, number_octets}
use Rattle.ber_reals.proofs.WriteLaws.{odd-of}
use Rattle.ber_real_writer.proofs.WriteLaws.{write-number}
use Rattle.ber_integers.specs.Digits.{put}
use Rattle.ber_real_writer.proofs.write_finite.Goals as goal

pub overflow_shr-q : goal.overflow_shr-q
overflow_shr-q c = let q = c.args.q in omega (arith, halvings-lt 64 q (omega arith) (omega arith))

pub overflow_add-units : goal.overflow_add-units
overflow_add-units c = omega (arith, trailing_le 64 c.args.q)

pub write_number-requires : goal.write_number-requires
write_number-requires c =
    let q = c.args.q in
    let o : q / 2 ^ c.halvings-zeros.result % 2 ≡ 1 = ap (λ (z : ℕ). q / 2 ^ z % 2) c.halvings-zeros.ensures ∙ odd_is q (omega arith) (omega arith) in
    (omega arith, omega (arith, trailing_le 64 q))

pub returns : goal.returns
returns c =
    let a = c.args in
    let o = odd_is a.q (omega arith) (omega arith) in
    ap (write_at a.out.now a.at) (odd-of a.negative a.q a.units (omega arith) (omega arith))
    ∙ write-number a.out.now a.at a.negative (odd_part a.q) (minus (a.units + halvings a.q) 1074) (omega arith)
    ∙ sym (ap (λ (z : ℕ). put a.out.now a.at (number_octets a.negative (a.q / 2 ^ z) (minus (a.units + z) 1074)))
    c.halvings-zeros.ensures)
    ∙ c.write_number.ensures
