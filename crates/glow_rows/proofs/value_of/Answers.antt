use mathlib.Core.Path.{◌≡◌, ap, ◌∙◌}
use native.Mathlib.Omega.{arith}
use mir.Val.{to_z, of_z}
use mir.Syntax.{w64}
use Rattle.ber_values.specs.declared.Value.TheVariants.{Int}
use Rattle.glow_rows.proofs.Values.{value-int, value-nan, no_nan, value-real, value-text, value-bool, value-octets, value_none}
use borrow.Author.Rules.{rules}
use Rattle.glow_rows.proofs.value_of.Goals as goal

pub float_from_bits-result : goal.float_from_bits-result
float_from_bits-result c = no_nan c.args.v.first (omega arith)

pub returns-in-2 : goal.returns-in-2
returns-in-2 c =
    let k : to_z w64 (of_z w64 c.int_of.result) ≡ c.int_of.result = search rules in
    ap Int (k ∙ c.int_of.ensures) ∙ value-int _ c.in-2.is

pub returns-in-9 : goal.returns-in-9
returns-in-9 c = value-nan _ c.in-9.is c.if-v-gt9218868437227405312.true

pub returns-in-9-2 : goal.returns-in-9-2
returns-in-9-2 c = value-real _ c.in-9.is c.if-v-gt9218868437227405312.false

pub returns-in-12 : goal.returns-in-12
returns-in-12 c = rw (c.index.ensures, c.index-in-12.ensures) (value-text _ c.in-12.is)

pub returns-in-1 : goal.returns-in-1
returns-in-1 c = value-bool _ c.in-1.is

pub returns-in-4 : goal.returns-in-4
returns-in-4 c = rw (c.index-in-4.ensures, c.index-in-4-2.ensures) (value-octets _ c.in-4.is)

pub returns-in_default : goal.returns-in_default
returns-in_default c = value_none _ (λ e. omega arith) (λ e. omega arith) (λ e. omega arith) (λ e. omega arith) (λ e. omega arith)
