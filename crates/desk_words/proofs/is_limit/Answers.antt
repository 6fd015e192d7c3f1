use Rattle.desk_words.proofs.Laws.{limit-none, limit-given}
use Rattle.desk_words.proofs.is_limit.Goals as goal

pub returns-then-given-eq0 : goal.returns-then-given-eq0
returns-then-given-eq0 c =
    let the-if1 = c.if-given-eq0 in
    limit-none _ _ the-if1.true

pub returns : goal.returns
returns c =
    let the-if1 = c.if-given-eq0 in
    limit-given _ _ the-if1.false
