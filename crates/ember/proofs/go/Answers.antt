use Rattle.ember.proofs.Laws.{turned-setup, turned_on}
use Rattle.ember.proofs.go.Goals as goal

pub returns-then-number-eq1 : goal.returns-then-number-eq1
returns-then-number-eq1 c = turned-setup _ _ _ _ _ _ _ c.framing_feed-number.ensures c.if-number-eq1.true

pub returns : goal.returns
returns c =
    turned_on _ _ _ _ _ _ _ c.framing_feed-number.ensures c.follow-x.result.after _ _ _ c.if-number-eq1.false c.framing_feed-number.auto.answer c.requires
    c.follow-x.ensures (c.put_answer.ensures _ _ _)
