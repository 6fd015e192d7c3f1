use Rattle.glow_leaves.proofs.numbers_cell.Goals as goal

pub returns : goal.returns
returns c = simp (c.word.ensures, c.word-2.ensures)
