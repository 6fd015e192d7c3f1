use mathlib.Core.Path.{sym, subst}
use lib.Ieee.{binary64, of_bits}
use Rattle.ber_real_sizes.specs.Sizes.{HasSizes}
use Rattle.ber_real_sizes.proofs.CodeLaws.{written-zero, least_zero, no-number, small-sizes, normal-sizes}
use Rattle.ber_real_sizes.proofs.content_of.Goals as goal

pub returns-then-field-eq2047 : goal.returns-then-field-eq2047
returns-then-field-eq2047 c = no-number c.args.bits c.if-field-eq2047.true _ c.from.ensures

pub returns-then-field-ne0 : goal.returns-then-field-ne0
returns-then-field-ne0 c =
    subst (HasSizes (of_bits binary64 c.args.bits)) (sym c.number.ensures)
    (normal-sizes c.args.bits c.if-field-ne0.true c.if-field-eq2047.false)

pub returns-then-low-eq0 : goal.returns-then-low-eq0
returns-then-low-eq0 c =
    (written-zero c.args.bits c.if-field-ne0.false c.if-low-eq0.true, least_zero c.args.bits c.if-field-ne0.false c.if-low-eq0.true)

pub returns : goal.returns
returns c =
    subst (HasSizes (of_bits binary64 c.args.bits)) (sym c.number-2.ensures) (small-sizes c.args.bits c.if-field-ne0.false c.if-low-eq0.false)
