use Rattle.supervision.proofs.Order.{takes-tick, keeps-latest}
use Rattle.supervision.proofs.later.Goals as goal

pub returns-then-gap-lt2147483648 : goal.returns-then-gap-lt2147483648
returns-then-gap-lt2147483648 c =
    let the-gap = c.gap in
    let the-if1 = c.if-gap-lt2147483648 in
    takes-tick _ _ the-gap.ensures the-if1.true

pub returns : goal.returns
returns c =
    let the-gap = c.gap in
    let the-if1 = c.if-gap-lt2147483648 in
    keeps-latest _ _ the-gap.ensures the-if1.false
