use native.Mathlib.Omega.{arith}
use Rattle.ber_tags.proofs.Laws.{sized_past, sized-is}
use Rattle.ber_tags.proofs.fitted.Goals as goal

pub returns-then-bound-next : goal.returns-then-bound-next
returns-then-bound-next c = sized_past _ _ _ _ (omega arith)

pub returns-then-bound-next-2 : goal.returns-then-bound-next-2
returns-then-bound-next-2 c = sized_past _ _ _ _ (omega arith)

pub returns : goal.returns
returns c = sized-is _ _ _ _ (omega arith)
