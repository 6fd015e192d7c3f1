use Rattle.glow_member_sizes.proofs.Caps.{cap-in, cap-over}
use Rattle.glow_member_sizes.proofs.capped.Goals as goal

pub returns-then-n-le-MESSAGE_LIMIT : goal.returns-then-n-le-MESSAGE_LIMIT
returns-then-n-le-MESSAGE_LIMIT c = cap-in _ c.if-n-le-MESSAGE_LIMIT.true

pub returns-else-n-le-MESSAGE_LIMIT : goal.returns-else-n-le-MESSAGE_LIMIT
returns-else-n-le-MESSAGE_LIMIT c = cap-over _ c.if-n-le-MESSAGE_LIMIT.false
