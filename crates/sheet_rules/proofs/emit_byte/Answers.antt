use Rattle.sheet_rules.proofs.Laws.{broken-last, broken-inner}
use Rattle.base_output.proofs.Laws.{wrote_then}
use native.Mathlib.Omega.{arith}
use mathlib.Core.Path.{◌∙◌, sym}
use Rattle.sheet_rules.proofs.emit_byte.Goals as goal

pub returns-then-b-eq255 : goal.returns-then-b-eq255
returns-then-b-eq255 c =
    let e = wrote_then _ _ _ _ (c.put-first.ensures.b_value (omega arith)) ∙ wrote_then _ _ _ _ (c.put-second.ensures.b_value (omega arith))
    ∙ c.put.ensures.b_value (omega arith) in record {
      b_value = rw (broken-last _ c.if-b-eq255.true, sym c.high.ensures, sym c.low.ensures) e;
      upper_bound = omega arith;
    }

pub returns : goal.returns
returns c =
    let e = wrote_then _ _ _ _ (c.put-first.ensures.b_value (omega arith)) ∙ c.put-second.ensures.b_value (omega arith) in
    record { b_value = rw (broken-inner _ c.if-b-eq255.false, sym c.high.ensures, sym c.low.ensures) e; upper_bound = omega arith }
