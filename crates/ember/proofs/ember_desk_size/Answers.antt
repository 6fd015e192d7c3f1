use Rattle.ember.proofs.Laws.{size-told, size-setup}
use Rattle.ember.proofs.ember_desk_size.Goals as goal

pub returns-then-is_figures : goal.returns-then-is_figures
returns-then-is_figures c = size-told _ c.is_figures.ensures c.if-is_figures.true c.figures_at.ensures c.size.ensures c.word.ensures

pub returns : goal.returns
returns c = size-setup _ c.is_figures.ensures c.if-is_figures.false
