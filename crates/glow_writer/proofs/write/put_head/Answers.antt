use Rattle.glow_writer.proofs.Putting.{head-put}
use Rattle.glow_writer.proofs.write.put_head.Goals as goal

pub returns : goal.returns
returns c = λ h. head-put _ _ _ _ _ _ _ _ _ c.put_octet-a.ensures c.write_length.ensures c.place.ensures h
