use Rattle.ember_answers.proofs.Laws.{later-nothing, later-refused, later-served}
use Rattle.ember_answers.proofs.after.later.Goals as goal

pub returns-in-Nothing : goal.returns-in-Nothing
returns-in-Nothing c = later-nothing c.in-Nothing.is c.make.ensures

pub returns-in-Refused : goal.returns-in-Refused
returns-in-Refused c = later-refused c.in-Refused.is c.refused.ensures

pub returns-in-Served : goal.returns-in-Served
returns-in-Served c = later-served c.in-Served.is c.word.ensures c.word-in-Served.ensures c.make-in-Served.ensures
