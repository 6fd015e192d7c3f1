use native.Mathlib.Omega.{arith}
use Rattle.ber_identifiers.proofs.Laws.{arc-over, arc-is}
use Rattle.ber_identifiers.proofs.ended.Goals as goal

pub returns-then-n-gt2147483647 : goal.returns-then-n-gt2147483647
returns-then-n-gt2147483647 c = arc-over _ _ (omega arith)

pub returns : goal.returns
returns c = arc-is _ _ (omega arith)
