use Rattle.glow_c.proofs.Laws.{set-three}
use Rattle.glow_c.proofs.put.Goals as goal

pub returns : goal.returns
returns c =
    let the-args = c.args in
    let the-pre = c.requires in
    set-three the-args.answer.now _ _ _ (the-pre)
