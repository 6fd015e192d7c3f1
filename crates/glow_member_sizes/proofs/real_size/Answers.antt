use Rattle.glow_member_sizes.proofs.Words.{least_by, written-by}
use Rattle.glow_member_sizes.proofs.real_size.Goals as goal

pub returns-then-least : goal.returns-then-least
returns-then-least c = least_by _ _ _ _ c.if-least.true c.least_size.ensures c.word.ensures

pub returns : goal.returns
returns c = written-by _ _ _ _ c.if-least.false c.written_size.ensures c.word-2.ensures
