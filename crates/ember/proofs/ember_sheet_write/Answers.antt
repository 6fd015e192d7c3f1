use Rattle.ember.proofs.Laws.{sheet-words, sheet-figures, sheet-wrote}
use Rattle.ember.proofs.ember_sheet_write.Goals as goal

pub returns-then-answer-ne1 : goal.returns-then-answer-ne1
returns-then-answer-ne1 c = sheet-words _ _ _ _ _ c.if-answer-ne1.true

pub returns-then-is_figures : goal.returns-then-is_figures
returns-then-is_figures c =
    sheet-wrote _ _ _ _ _ c.if-answer-ne1.false c.is_figures.ensures c.if-is_figures.true c.figures_at.ensures c.write-a.ensures (c.wrote.ensures _)

pub returns : goal.returns
returns c = sheet-figures _ _ _ _ _ c.is_figures.ensures c.if-is_figures.false
