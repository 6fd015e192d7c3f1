use mathlib.Core.Path.{refl, sym, ◌∙◌}
use Rattle.sheet_entries.proofs.Numbers.{refused_none, refused-one, refused-more}
use Rattle.sheet_entries.proofs.first_refused.Goals as goal

pub loop-j-init : goal.loop-j-init
loop-j-init c = refl

pub returns-then-answers-j-ne0 : goal.returns-then-answers-j-ne0
returns-then-answers-j-ne0 c =
    c.loop-j.invariant ∙ refused-one _ _ c.loop-j-test.true c.if-answers-j-ne0.true ∙ sym c.from.ensures

pub loop-j-preserved : goal.loop-j-preserved
loop-j-preserved c = c.loop-j.invariant ∙ refused-more _ _ c.loop-j-test.true c.if-answers-j-ne0.false

pub returns : goal.returns
returns c = c.loop-j.invariant ∙ refused_none _ _ c.loop-j-test.false
