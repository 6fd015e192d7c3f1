use Rattle.glow_writer.proofs.Putting.{puts-by}
use Rattle.glow_writer.proofs.write.put_octet.Goals as goal

pub returns : goal.returns
returns c = puts-by _ _ _ _ _ _ c.write_octet.ensures c.place.ensures
