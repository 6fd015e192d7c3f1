use mathlib.Core.Path.{◌∙◌}
use native.Mathlib.Omega.{arith}
use Rattle.framing_packets.proofs.Laws.{limited-fits, limited-over, into-done, into-short}
use Rattle.framing_writer.proofs.write_frame.Goals as goal

pub returns-then-body-gt-BODY_LIMIT : goal.returns-then-body-gt-BODY_LIMIT
returns-then-body-gt-BODY_LIMIT c = limited-over _ _ _ _ c.if-body-gt-BODY_LIMIT.true

pub emit_frame-length-requires : goal.emit_frame-length-requires
emit_frame-length-requires c = omega arith

pub returns-then-out-length : goal.returns-then-out-length
returns-then-out-length c =
    limited-fits _ _ _ _ c.if-body-gt-BODY_LIMIT.false
    ∙ into-short _ _ c.emit_frame-length.ensures.rest_value (omega arith)

pub emit_frame-requires : goal.emit_frame-requires
emit_frame-requires c = omega arith

pub returns : goal.returns
returns c =
    limited-fits _ _ _ _ c.if-body-gt-BODY_LIMIT.false
    ∙ into-done _ _ c.emit_frame-length.ensures.rest_value
    (omega arith) c.emit_frame.ensures.rest_value
