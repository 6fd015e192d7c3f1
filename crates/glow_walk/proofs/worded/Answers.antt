use Rattle.glow_leaves.proofs.Words.{cell-short, cell-long}
use Rattle.glow_walk.proofs.worded.Goals as goal

pub returns-then-number-lt-TEXT : goal.returns-then-number-lt-TEXT
returns-then-number-lt-TEXT c = cell-short _ _ _ c.if-number-lt-TEXT.true

pub returns : goal.returns
returns c = cell-long _ _ _ c.if-number-lt-TEXT.false c.word.ensures
