use Rattle.ember.proofs.Laws.{sheet-no-figures, sheet-no-words, sheet-read}
use Rattle.ember.proofs.ember_sheet_read.Goals as goal

pub returns-then-figures-ne7 : goal.returns-then-figures-ne7
returns-then-figures-ne7 c = sheet-no-figures _ _ _ _ _ _ c.if-figures-ne7.true

pub returns-then-answer-ne1 : goal.returns-then-answer-ne1
returns-then-answer-ne1 c = sheet-no-words _ _ _ _ _ _ c.if-answer-ne1.true

pub returns : goal.returns
returns c = sheet-read _ _ _ _ _ _ c.if-figures-ne7.false c.if-answer-ne1.false c.read-x.ensures (c.read.ensures _ _ _)
