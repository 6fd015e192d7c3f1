use Rattle.ember.proofs.Laws.{request-called, request-setup}
use mathlib.Core.List.{[]}
use Rattle.ember.proofs.ember_desk_request.Goals as goal

pub returns-then-is_figures : goal.returns-then-is_figures
returns-then-is_figures c = request-called _ _ _ _ _ c.is_figures.ensures c.if-is_figures.true c.figures_at.ensures (c.request.ensures [])

pub returns : goal.returns
returns c = request-setup _ _ _ _ _ c.is_figures.ensures c.if-is_figures.false
