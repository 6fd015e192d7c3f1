use mathlib.Core.Path.{sym, ◌∙◌}
use Rattle.framing_session.specs.Steps.{unless_setup}
use Rattle.framing_session.proofs.Laws.{legal-true}
use Rattle.framing_steps.proofs.step.Goals as goal

pub takes-requires : goal.takes-requires
takes-requires c =
    let a = c.args in
    legal-true a.session a.store.now (sym c.is_legal.ensures ∙ c.if-is_legal.true)

pub returns-then-is_legal : goal.returns-then-is_legal
unfolding unless_setup
returns-then-is_legal c =
    rw (sym c.is_legal.ensures ∙ c.if-is_legal.true)
    c.takes.ensures

pub returns : goal.returns
unfolding unless_setup
returns c = rw (sym c.is_legal.ensures ∙ c.if-is_legal.false)
