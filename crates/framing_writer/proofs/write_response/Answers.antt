use Rattle.framing_packets.specs.Written.{limited}
use Rattle.framing_writer.proofs.write_response.Goals as goal

pub returns : goal.returns
unfolding limited
returns c = c.write_frame.ensures
