use Rattle.glow_steps.proofs.Laws.{mark-is}
use Rattle.glow_steps.proofs.marking.Goals as goal

pub returns : goal.returns
returns c =
    let the-pre = c.requires in
    mark-is _ _ (the-pre)
