use Rattle.framing_checksum.specs.Checksum.{checksum}
use Rattle.framing_checksum.proofs.of.Goals as goal

pub returns : goal.returns
unfolding checksum
returns c = rw c.crc_from-c.ensures
