use mathlib.Core.Path.{sym, ◌∙◌}
use Rattle.ember_answers.proofs.Laws.{fit_words}
use Rattle.ember.proofs.Laws.{turns-on, turns-lengths, turns-figures}
use Rattle.ember.proofs.ember_turn.Goals as goal

pub go-requires : goal.go-requires
go-requires c = fit_words _ _ _ _ _ (sym c.lengths_fit.ensures ∙ c.if-lengths_fit.true)

pub returns-then-lengths_fit : goal.returns-then-lengths_fit
returns-then-lengths_fit c =
    turns-on _ _ _ _ _ _ _ _ _ c.is_figures.ensures c.if-is_figures.true c.figures_at-f.ensures c.size-size.ensures c.lengths_fit.ensures
    c.if-lengths_fit.true
    c.go.ensures

pub returns-then-is_figures : goal.returns-then-is_figures
returns-then-is_figures c =
    turns-lengths _ _ _ _ _ _ _ _ _ c.is_figures.ensures c.if-is_figures.true c.figures_at-f.ensures c.size-size.ensures c.lengths_fit.ensures
    c.if-lengths_fit.false

pub returns : goal.returns
returns c = turns-figures _ _ _ _ _ _ _ _ _ c.is_figures.ensures c.if-is_figures.false
