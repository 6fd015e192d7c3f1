use Rattle.sheet_stream.proofs.Steps.{left-refused, left_open, left_one, left-many}
use Rattle.sheet_stream.specs.Finding.{holds}
use mathlib.Core.Path.{ap, ◌∙◌}
use Rattle.sheet_stream.proofs.end.Goals as goal

pub returns-then-tally-ne0 : goal.returns-then-tally-ne0
returns-then-tally-ne0 c = λ t. ap (λ x. holds x t) (left-refused c.args.tally t _ c.if-tally-ne0.true)

pub returns-then-is_open : goal.returns-then-is_open
returns-then-is_open c = λ t. ap (λ x. holds x t) (left_open c.args.tally t c.if-tally-ne0.false (c.is_open.ensures ∙ c.if-is_open.true))

pub returns-then-tally-eq1 : goal.returns-then-tally-eq1
returns-then-tally-eq1 c = λ t. ap (λ x. holds x t) (left_one c.args.tally t c.if-tally-ne0.false (c.is_open.ensures ∙ c.if-is_open.false) c.if-tally-eq1.true)

pub returns : goal.returns
returns c = λ t. ap (λ x. holds x t) (left-many c.args.tally t c.if-tally-ne0.false (c.is_open.ensures ∙ c.if-is_open.false) c.if-tally-eq1.false)
