use Rattle.glow_c.proofs.Laws.{write-other, write-called}
use Rattle.glow_c.proofs.glow_write.Goals as goal

pub returns-then-answer-ne1 : goal.returns-then-answer-ne1
returns-then-answer-ne1 c = write-other _ _ _ _ _ _ c.if-answer-ne1.true

pub told-requires : goal.told-requires
told-requires c = c.if-answer-ne1.false

pub returns : goal.returns
returns c = write-called _ _ _ _ _ _ c.if-answer-ne1.false c.write-w.ensures c.told.ensures.value c.told.ensures.answer_after
