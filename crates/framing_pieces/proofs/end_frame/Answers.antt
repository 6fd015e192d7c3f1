use mathlib.Core.Path.{sym, ◌∙◌}
use Rattle.framing_session.specs.Steps.{inside_of, unless_setup}
use Rattle.framing_session.proofs.Laws.{legal-true}
use Rattle.framing_pieces.proofs.end_frame.Goals as goal

pub ends-requires : goal.ends-requires
ends-requires c =
    let a = c.args in
    legal-true (inside_of a.length a.message) a.store.now (sym c.is_legal.ensures ∙ c.if-is_legal.true)

pub returns-then-is_legal : goal.returns-then-is_legal
unfolding unless_setup
returns-then-is_legal c =
    rw (sym c.is_legal.ensures ∙ c.if-is_legal.true)
    c.ends.ensures

pub returns : goal.returns
unfolding unless_setup
returns c = rw (sym c.is_legal.ensures ∙ c.if-is_legal.false)
