use Rattle.ember_answers.proofs.Laws.{put-words, put-setup, put-done}
use native.Mathlib.Omega.{arith}
use Rattle.ember_answers.proofs.put_answers.Goals as goal

pub returns-then-answer-ne1 : goal.returns-then-answer-ne1
returns-then-answer-ne1 c = λ cells. put-words c.args.called c.args.answers.now c.args.answer.now cells c.if-answer-ne1.true

pub returns-then-called-ne0 : goal.returns-then-called-ne0
returns-then-called-ne0 c = λ cells. put-setup c.args.called c.args.answers.now c.args.answer.now cells c.if-answer-ne1.false c.if-called-ne0.true

pub returns : goal.returns
returns c = λ cells. put-done c.args.called c.args.answers.now c.args.answer.now cells c.if-answer-ne1.false (omega arith) c.word.ensures
