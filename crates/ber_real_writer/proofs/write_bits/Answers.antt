use mathlib.Core.Path.{ap, ◌∙◌}
use mathlib.Core.Bool.{Bool}
use native.Mathlib.Omega.{arith}
use borrow.Author.Tests.{le-leb, lt-leb}
use lib.IntN.{pos}
use lib.Ieee.{inf, fin}
use Rattle.ber_integers.specs.Digits.{digits}
use Rattle.ber_reals.specs.Write.{write_at}
use Rattle.ber_reals.proofs.WriteLaws.{bits-nan, bits-inf, bits-zero, bits_small, bits-normal}
use Rattle.ber_real_writer.proofs.WriteLaws.{write-nan, write-plus, write-minus, write-zero, write-minus-zero}
use Rattle.ber_real_writer.proofs.write_bits.Goals as goal

-- `ber_real_writer::write_bits` meets its contract. Assumes nothing.
pub returns-then-low-ne0 : goal.returns-then-low-ne0
returns-then-low-ne0 c =
    let a = c.args in
    ap (write_at a.out.now a.at) (bits-nan a.word c.if-field-eq2047.true c.if-low-ne0.true) ∙ write-nan a.out.now a.at

pub returns-then-negative : goal.returns-then-negative
unfolding digits
returns-then-negative c =
    let a = c.args in
    ap (write_at a.out.now a.at) (bits-inf a.word c.if-field-eq2047.true
    c.if-low-ne0.false ∙ ap inf (le-leb _ _ c.if-negative.true))
    ∙ write-minus a.out.now a.at ∙ c.write_octets.ensures

pub returns-then-field-eq2047 : goal.returns-then-field-eq2047
unfolding digits
returns-then-field-eq2047 c =
    let a = c.args in
    ap (write_at a.out.now a.at) (bits-inf a.word c.if-field-eq2047.true
    c.if-low-ne0.false ∙ ap inf (lt-leb _ _ c.if-negative.false))
    ∙ write-plus a.out.now a.at ∙ c.write_octets-then-field-eq2047.ensures

pub returns-then-negative-2 : goal.returns-then-negative-2
returns-then-negative-2 c =
    let a = c.args in
    ap (write_at a.out.now a.at) (bits-zero a.word c.if-field-eq0.true c.if-low-eq0.true
    ∙ ap (λ (s : Bool). fin s 0 (pos 0)) (le-leb _ _ c.if-negative-2.true)) ∙ write-minus-zero a.out.now a.at (pos 0)

pub returns-then-low-eq0 : goal.returns-then-low-eq0
unfolding digits
returns-then-low-eq0 c =
    let a = c.args in
    ap (write_at a.out.now a.at) (bits-zero a.word c.if-field-eq0.true
    c.if-low-eq0.true ∙ ap (λ (s : Bool). fin s 0 (pos 0)) (lt-leb _ _ c.if-negative-2.false))
    ∙ write-zero a.out.now a.at (pos 0)
    ∙ c.write_octets-then-low-eq0.ensures

pub returns-then-field-eq0 : goal.returns-then-field-eq0
returns-then-field-eq0 c =
    let a = c.args in
    ap (write_at a.out.now a.at) (bits_small a.word c.if-field-eq0.true) ∙ c.write_finite.ensures

pub returns : goal.returns
returns c =
    let a = c.args in
    ap (write_at a.out.now a.at) (bits-normal a.word (omega (arith, c.if-field-eq0.false))
    c.if-field-eq2047.false) ∙ c.write_finite-2.ensures
