use native.Mathlib.Omega.{arith}
use Rattle.glow_rows.proofs.Values.{span-absent, span-is, octets-other, octets-out}
use Rattle.glow_rows.proofs.span_of.Goals as goal
use Rattle.glow_rows.proofs.span_of.Goals.{in_default-via-in-Some+else-end-s, in_default-via-in_default}

pub returns-then-v-ne-NUMBERS-clause-s_value : goal.returns-then-v-ne-NUMBERS-clause-s_value
returns-then-v-ne-NUMBERS-clause-s_value c = span-absent _ _ _ c.default.ensures (octets-other _ _ c.if-v-ne-NUMBERS.true)

pub returns-in-Some-clause-s_value : goal.returns-in-Some-clause-s_value
returns-in-Some-clause-s_value c = let e = c.in-Some.ensures in span-is _ _ _ _ c.if-v-ne-NUMBERS.false (omega arith) (omega arith) (omega arith)

pub returns-in_default-clause-s_value : goal.returns-in_default-clause-s_value
returns-in_default-clause-s_value c =
    span-absent _ _ _ c.default-in_default.ensures (octets-out _ _ c.if-v-ne-NUMBERS.false
    (elim c.in_default.branch [
      | in_default-via-in-Some+else-end-s w ↦ let e = w.in-Some.ensures in omega arith
      | in_default-via-in_default w ↦ let e = w.in_default.ensures in omega arith
    ]))
