use Rattle.ember.proofs.Laws.{read-setup, read-refused, read-desk}
use mathlib.Core.Path.{sym, ◌∙◌}
use Rattle.desk_words.proofs.Laws.{words-seven}
use Rattle.ember.proofs.sheet.read.Goals as goal

pub returns-in-Setup : goal.returns-in-Setup
returns-in-Setup c = λ store path cells. read-setup c.args.figures.now c.args.answer.now store path cells c.in-Setup.is

pub returns-in-Refused : goal.returns-in-Refused
returns-in-Refused c = λ store path cells. read-refused c.args.figures.now c.args.answer.now store path cells c.requires.answer_len c.in-Refused.is

pub returns-in-Read : goal.returns-in-Read
returns-in-Read c =
    λ store path cells. read-desk c.args.figures.now c.args.answer.now store path cells c.requires.answer_len
    c.in-Read.is (sym c.put_figures.ensures ∙ words-seven _ _ c.requires.figures_len) c.word.ensures
