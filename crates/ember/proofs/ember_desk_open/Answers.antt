use Rattle.ember.proofs.Laws.{open-called, open-setup}
use Rattle.ember.proofs.ember_desk_open.Goals as goal

pub returns-then-is_figures : goal.returns-then-is_figures
returns-then-is_figures c = open-called _ _ _ c.is_figures.ensures _ c.if-is_figures.true c.figures_at.ensures c.«open».ensures

pub returns : goal.returns
returns c = open-setup _ _ _ c.is_figures.ensures _ c.if-is_figures.false
