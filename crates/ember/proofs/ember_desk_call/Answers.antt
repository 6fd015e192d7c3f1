use Rattle.ember.proofs.Laws.{desk-words, desk-setup, desk-called}
use Rattle.ember.proofs.ember_desk_call.Goals as goal

pub returns-then-answer-ne1 : goal.returns-then-answer-ne1
returns-then-answer-ne1 c = desk-words _ _ _ _ _ _ _ _ _ c.if-answer-ne1.true

pub returns-then-is_figures : goal.returns-then-is_figures
returns-then-is_figures c =
    desk-called _ _ _ _ _ _ _ _ _ c.if-answer-ne1.false c.is_figures.ensures c.if-is_figures.true c.figures_at.ensures c.call-called.ensures
    (c.put_answers.ensures _)

pub returns : goal.returns
returns c = desk-setup _ _ _ _ _ _ _ _ _ c.is_figures.ensures c.if-is_figures.false
