use Rattle.ember_answers.proofs.Laws.{tree-setup, tree-refused, tree-room, tree-read}
use Rattle.ember_answers.proofs.after.refused.Goals as goal

pub returns-in-Setup : goal.returns-in-Setup
returns-in-Setup c = tree-setup c.in-Setup.is c.make.ensures

pub returns-in-Refused : goal.returns-in-Refused
returns-in-Refused c = tree-refused c.in-Refused.is c.word.ensures c.make-in-Refused.ensures

pub returns-in-Room : goal.returns-in-Room
returns-in-Room c = tree-room c.in-Room.is c.word-in-Room.ensures c.make-in-Room.ensures

pub returns-in-Read : goal.returns-in-Read
returns-in-Read c = tree-read c.in-Read.is c.word-in-Read.ensures c.make-in-Read.ensures
