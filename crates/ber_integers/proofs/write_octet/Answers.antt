use native.Mathlib.Omega.{arith}
use Rattle.ber_integers.proofs.Laws.{put-out, put_one}
use Rattle.ber_integers.proofs.write_octet.Goals as goal

pub returns-then-out-at : goal.returns-then-out-at
returns-then-out-at c = put-out _ _ _ (omega arith)

pub returns : goal.returns
returns c = put_one _ _ _ (omega arith)
