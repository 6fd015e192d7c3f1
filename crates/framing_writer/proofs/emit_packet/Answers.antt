use native.Mathlib.Omega.{arith}
use Rattle.framing_packets.proofs.Laws.{packet-frame}
use Rattle.framing_writer.proofs.emit_packet.Goals as goal

pub emit_frame-requires : goal.emit_frame-requires
emit_frame-requires c = omega arith

pub returns : goal.returns
returns c = record { payload_value = rw (packet-frame c.args.first c.args.last c.args.payload.now c.packet_flags-f.ensures) c.emit_frame.ensures.rest_value; upper_bound = omega arith }
