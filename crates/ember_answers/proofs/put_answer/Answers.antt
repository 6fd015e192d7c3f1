use lib.ListN.{length-set}
use native.Mathlib.Omega.{arith}
use Rattle.ember_answers.proofs.Laws.{put_other, nine-put}
use Rattle.ember_answers.proofs.put_answer.Goals as goal

pub returns-then-answer-ne9 : goal.returns-then-answer-ne9
returns-then-answer-ne9 c = λ answers table cells. put_other _ _ _ _ _ c.if-answer-ne9.true

pub bounds-answer-4 : goal.bounds-answer-4
bounds-answer-4 c = simp length-set (omega (arith, c.if-answer-ne9.false))

pub bounds-answer-5 : goal.bounds-answer-5
bounds-answer-5 c = simp length-set (omega (arith, c.if-answer-ne9.false))

pub bounds-answer-6 : goal.bounds-answer-6
bounds-answer-6 c = simp length-set (omega (arith, c.if-answer-ne9.false))

pub bounds-answer-7 : goal.bounds-answer-7
bounds-answer-7 c = simp length-set (omega (arith, c.if-answer-ne9.false))

pub bounds-answer-8 : goal.bounds-answer-8
bounds-answer-8 c = simp length-set (omega (arith, c.if-answer-ne9.false))

pub returns : goal.returns
returns c = λ answers table cells. nine-put c.args.answer.now _ _ _ _ c.if-answer-ne9.false (c.later-x.ensures answers table cells)
