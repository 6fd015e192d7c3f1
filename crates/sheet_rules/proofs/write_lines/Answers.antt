use Rattle.framing_packets.proofs.Laws.{limited-fits, limited-over, into-done, into-short}
use native.Mathlib.Omega.{arith}
use mathlib.Core.Path.{◌∙◌}
use Rattle.sheet_rules.proofs.write_lines.Goals as goal

pub returns-then-frames-gt65536 : goal.returns-then-frames-gt65536
returns-then-frames-gt65536 c = limited-over _ _ _ _ c.if-frames-gt65536.true

pub emit_lines-length-requires : goal.emit_lines-length-requires
emit_lines-length-requires c = omega arith

pub returns-then-out-length : goal.returns-then-out-length
returns-then-out-length c = limited-fits _ _ _ _ c.if-frames-gt65536.false ∙ into-short _ _ c.emit_lines-length.ensures.s_value c.if-out-length.true

pub emit_lines-requires : goal.emit_lines-requires
emit_lines-requires c = omega arith

pub returns : goal.returns
returns c =
    limited-fits _ _ _ _ c.if-frames-gt65536.false ∙ into-done _ _ c.emit_lines-length.ensures.s_value c.if-out-length.false
    c.emit_lines.ensures.s_value
