use Rattle.ember.proofs.Laws.{legal-yes, legal-no, legal-setup}
use Rattle.ember.proofs.ember_desk_is_legal.Goals as goal

pub returns-then-desk_is_legal : goal.returns-then-desk_is_legal
returns-then-desk_is_legal c = legal-yes _ _ _ c.is_figures.ensures c.if-is_figures.true c.figures_at.ensures c.desk_is_legal.ensures c.if-desk_is_legal.true

pub returns-then-is_figures : goal.returns-then-is_figures
returns-then-is_figures c = legal-no _ _ _ c.is_figures.ensures c.if-is_figures.true c.figures_at.ensures c.desk_is_legal.ensures c.if-desk_is_legal.false

pub returns : goal.returns
returns c = legal-setup _ _ _ c.is_figures.ensures c.if-is_figures.false
