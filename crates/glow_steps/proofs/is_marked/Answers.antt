use Rattle.glow_steps.proofs.Laws.{marked-is}
use Rattle.glow_steps.proofs.is_marked.Goals as goal

pub returns : goal.returns
returns c = marked-is _ _
