use mathlib.Core.Path.{◌∙◌}
use native.Mathlib.Omega.{arith}
use Rattle.sheet_rules.proofs.Laws.{bad-start, bad-yes, bad-on, bad-end}
use Rattle.sheet_rules.proofs.has_bad_line.Goals as goal

pub loop-b-init : goal.loop-b-init
loop-b-init c = bad-start _

pub returns-then-k-eq-BAD : goal.returns-then-k-eq-BAD
returns-then-k-eq-BAD c = c.loop-b.invariant ∙ bad-yes c.args.text.now c.loop-b.b-index _ _ (omega arith) c.step_line-k.ensures c.if-k-eq-BAD.true

pub loop-b-preserved : goal.loop-b-preserved
loop-b-preserved c = c.loop-b.invariant ∙ bad-on c.args.text.now c.loop-b.b-index _ _ (omega arith) c.step_line-k.ensures c.if-k-eq-BAD.false

pub returns : goal.returns
returns c = c.loop-b.invariant ∙ bad-end c.args.text.now c.loop-b.b-index _ (omega arith)
