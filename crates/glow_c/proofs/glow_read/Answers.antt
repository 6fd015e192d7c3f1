use Rattle.glow_c.proofs.Laws.{call-other, call-read}
use Rattle.glow_c.proofs.glow_read.Goals as goal

pub returns-then-answer-ne3 : goal.returns-then-answer-ne3
returns-then-answer-ne3 c = call-other _ _ _ c.if-answer-ne3.true

pub returns : goal.returns
returns c = call-read _ _ _ c.if-answer-ne3.false c.read.ensures c.tell.ensures.value c.tell.ensures.answer_after
