use mathlib.Core.Path.{sym, ◌∙◌}
use Rattle.framing_c.proofs.Laws.{calls-setup, calls-taken}
use Rattle.framing_c.proofs.framing_feed.Goals as goal

pub returns-then-accepts : goal.returns-then-accepts
returns-then-accepts c =
    let store = c.feed-fed.new.store in
    calls-taken c.args.session.now c.args.store.now c.args.chunk.now c.args.answer.now c.session_at.result c.feed-fed.result
    c.put_session.new.words store c.put_answer.new.answer
    (sym c.accepts.ensures ∙ c.if-accepts.true)
    c.session_at.ensures
    c.feed-fed.ensures
    c.put_session.ensures
    c.put_answer.ensures
    ∙ rw c.number.ensures

pub returns : goal.returns
returns c = calls-setup _ _ _ _ (sym c.accepts.ensures ∙ c.if-accepts.false)
