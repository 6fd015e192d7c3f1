use Rattle.desk_words.proofs.Laws.{figures-length, figures-second, figures-first}
use mathlib.Core.Path.{◌∙◌}
use Rattle.desk_words.proofs.is_figures.Goals as goal

pub returns-then-words-ne7 : goal.returns-then-words-ne7
returns-then-words-ne7 c = figures-length _ c.if-words-ne7.true

pub returns-then-is_limit : goal.returns-then-is_limit
returns-then-is_limit c = figures-second _ c.if-words-ne7.false c.is_limit.ensures c.if-is_limit.true c.is_limit-then-is_limit.ensures

pub returns-else-is_limit : goal.returns-else-is_limit
returns-else-is_limit c = c.if-is_limit.false ∙ figures-first _ c.if-words-ne7.false c.is_limit.ensures c.if-is_limit.false
