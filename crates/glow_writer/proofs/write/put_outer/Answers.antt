use Rattle.glow_writer.proofs.Putting.{heads-put}
use native.Mathlib.Omega.{arith}
use mathlib.Core.Path.{refl}
use Rattle.glow_writer.proofs.write.put_outer.Goals as goal

pub overflow_add-number : goal.overflow_add-number
overflow_add-number c = let q = c.requires in omega arith

pub returns : goal.returns
returns c = λ h. heads-put _ _ _ _ _ _ _ _ _ _ _ refl c.around.ensures c.put_head-a.ensures c.put_head.ensures h
