use Rattle.glow_sizes.proofs.Notes.{stored-in, stored-out}
use native.Mathlib.Omega.{arith}
use Rattle.glow_sizes.proofs.keep.Goals as goal

pub returns-then-kept-i : goal.returns-then-kept-i
returns-then-kept-i c = stored-out _ _ _ c.if-kept-i.true

pub returns : goal.returns
returns c = stored-in _ _ _ (omega arith)
