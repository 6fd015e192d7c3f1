use native.Mathlib.Omega.{arith}
use Rattle.ber_tags.proofs.Laws.{cut_at, cut-end}
use Rattle.ber_tags.proofs.cut_of.Goals as goal

pub returns-then-bound-s : goal.returns-then-bound-s
returns-then-bound-s c = cut_at _ _ _ (omega arith)

pub returns-else-bound-s : goal.returns-else-bound-s
returns-else-bound-s c = cut-end _ _ _ (omega arith)
