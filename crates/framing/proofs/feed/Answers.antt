use mathlib.Core.Path.{sym, ◌∙◌}
use Rattle.framing_session.specs.Session.{feeds}
use Rattle.framing.proofs.feed.Goals as goal

pub runs-requires : goal.runs-requires
runs-requires c = sym c.is_legal.ensures ∙ c.if-is_legal.true

pub returns-then-is_legal : goal.returns-then-is_legal
unfolding feeds
returns-then-is_legal c =
    rw (sym c.is_legal.ensures ∙ c.if-is_legal.true)
    c.runs.ensures

pub returns : goal.returns
unfolding feeds
returns c = rw (sym c.is_legal.ensures ∙ c.if-is_legal.false)
