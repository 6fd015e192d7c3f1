use mathlib.Core.Path.{◌∙◌}
use native.Mathlib.Omega.{arith}
use Rattle.framing_packets.proofs.Laws.{limited-fits, limited-over, into-done, into-short}
use Rattle.framing_writer.proofs.write_message.Goals as goal

pub returns-then-message-gt-MESSAGE_LIMIT : goal.returns-then-message-gt-MESSAGE_LIMIT
returns-then-message-gt-MESSAGE_LIMIT c = limited-over _ _ _ _ c.if-message-gt-MESSAGE_LIMIT.true

pub emit_message-total-requires : goal.emit_message-total-requires
emit_message-total-requires c = omega arith

pub returns-then-out-total : goal.returns-then-out-total
returns-then-out-total c =
    limited-fits _ _ _ _ c.if-message-gt-MESSAGE_LIMIT.false
    ∙ into-short _ _ c.emit_message-total.ensures c.if-out-total.true

pub emit_message-requires : goal.emit_message-requires
emit_message-requires c = omega arith

pub returns : goal.returns
returns c =
    limited-fits _ _ _ _ c.if-message-gt-MESSAGE_LIMIT.false
    ∙ into-done _ _ c.emit_message-total.ensures
    c.if-out-total.false c.emit_message.ensures
