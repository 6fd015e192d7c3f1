use Rattle.ember.proofs.Laws.{wrote-setup, wrote-out, wrote-done}
use Rattle.ember.proofs.sheet.wrote.Goals as goal

pub returns-in-Setup : goal.returns-in-Setup
returns-in-Setup c = λ out. wrote-setup c.args.answer.now out c.in-Setup.is

pub returns-in-Out : goal.returns-in-Out
returns-in-Out c = λ out. wrote-out c.args.answer.now out c.requires c.in-Out.is

pub returns-in-Done : goal.returns-in-Done
returns-in-Done c = λ out. wrote-done c.args.answer.now out c.requires c.in-Done.is c.word.ensures
