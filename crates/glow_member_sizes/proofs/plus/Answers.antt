use Rattle.glow_member_sizes.proofs.Caps.{plus-left, plus-right}
use Rattle.glow_member_sizes.proofs.plus.Goals as goal

pub returns-then-a-gt-MESSAGE_LIMIT : goal.returns-then-a-gt-MESSAGE_LIMIT
returns-then-a-gt-MESSAGE_LIMIT c = plus-left _ _ c.if-a-gt-MESSAGE_LIMIT.true

pub returns-then-b-gt-MESSAGE_LIMIT : goal.returns-then-b-gt-MESSAGE_LIMIT
returns-then-b-gt-MESSAGE_LIMIT c = plus-right _ _ c.if-b-gt-MESSAGE_LIMIT.true

pub returns : goal.returns
returns c = c.capped.ensures
