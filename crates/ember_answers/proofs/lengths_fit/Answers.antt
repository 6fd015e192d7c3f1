use Rattle.ember_answers.proofs.Laws.{fit-answer, fit-rows, fit-cells, fit-path, fit_all}
use native.Mathlib.Omega.{arith}
use Rattle.ember_answers.proofs.lengths_fit.Goals as goal

pub returns-then-words-ne9 : goal.returns-then-words-ne9
returns-then-words-ne9 c = fit-answer _ _ _ _ _ c.if-words-ne9.true

pub returns-then-rows-gt256 : goal.returns-then-rows-gt256
returns-then-rows-gt256 c = fit-rows _ _ _ _ _ c.if-words-ne9.false (omega arith)

pub returns-then-cells-size : goal.returns-then-cells-size
returns-then-cells-size c = fit-cells _ _ _ _ _ c.if-words-ne9.false (omega arith) c.if-cells-size.true

pub returns-then-path-lt1 : goal.returns-then-path-lt1
returns-then-path-lt1 c = fit-path _ _ _ _ _ c.if-words-ne9.false (omega arith) c.if-cells-size.false (omega arith)

pub returns : goal.returns
returns c = fit_all _ _ _ _ _ c.if-words-ne9.false (omega arith) c.if-cells-size.false (omega arith)
