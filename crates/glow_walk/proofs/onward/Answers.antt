use Rattle.glow_walk.proofs.Held.{onward-no, onward-read}
use Rattle.glow_walk.proofs.onward.Goals as goal

pub returns-in-Err : goal.returns-in-Err
returns-in-Err c = onward-no _ _ c.in-Err.is

pub returns-in-Ok : goal.returns-in-Ok
returns-in-Ok c = onward-read _ _ c.in-Ok.is c.on.ensures
