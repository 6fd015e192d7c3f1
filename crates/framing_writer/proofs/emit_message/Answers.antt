use mathlib.Core.Path.{ap, ◌∙◌}
use native.Mathlib.Omega.{arith}
use Rattle.base_output.specs.Output.{wrote}
use Rattle.base_output.proofs.Laws.{wrote_then}
use Rattle.framing_packets.proofs.Laws.{packets-more, packets-last}
use Rattle.framing_writer.proofs.emit_message.Goals as goal

pub loop-rest-preserved : goal.loop-rest-preserved
loop-rest-preserved c =
    let i = c.loop-rest.invariant in
    let s = c.split_at.ensures in (
      omega arith,
      c.emit_packet-at.auto.out ∙ i.1,
      i.2 ∙ ap (wrote c.loop-rest.out c.loop-rest.at) (packets-more _ _ c.loop-rest-test.true s.front s.back)
          ∙ wrote_then _ _ _ _ c.emit_packet-at.ensures.payload_value,
    )

pub returns : goal.returns
returns c = c.loop-rest.invariant.2 ∙ rw (packets-last _ _ c.loop-rest-test.false) c.emit_packet.ensures.payload_value
