use Rattle.std.proofs.Common.{rules, arith}
use Rattle.program_lines.proofs.Laws.{number-start, number-no, number_more, number-end}
use Rattle.program_lines.specs.Words.{number_of}
use Rattle.program_lines.proofs.text.number.Goals as goal

pub returns-then-is_empty : goal.returns-then-is_empty
unfolding number_of
returns-then-is_empty c = search rules

pub loop-b-init : goal.loop-b-init
loop-b-init c = (omega arith, number-start c.args.text.now (search rules))

pub returns-then-not-is_ascii_digit : goal.returns-then-not-is_ascii_digit
returns-then-not-is_ascii_digit c = number-no _ _ _ c.loop-b.invariant.1 c.loop-b-test.true (λ l g. search rules)

pub loop-b-preserved : goal.loop-b-preserved
loop-b-preserved c = (omega arith, number_more _ _ _ c.loop-b.invariant.1 c.loop-b-test.true (search rules) (search rules) _ (omega arith))

pub returns : goal.returns
returns c = number-end _ _ _ c.loop-b.invariant.1 c.loop-b.invariant.0 c.loop-b-test.false
