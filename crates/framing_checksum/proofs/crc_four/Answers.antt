use Prim.Native.Nat.{ℕ}
use mathlib.Core.Path.{ap, ◌∙◌}
use native.Mathlib.Omega.{arith}
use lib.Bits.{bit_xor, xor_lt}
use Rattle.framing_checksum.proofs.Division.{divided_four, crc-four, four-fits}
use Rattle.framing_checksum.proofs.crc_four.Goals as goal

pub overflow_cast-result : goal.overflow_cast-result
overflow_cast-result c = record { fits = four-fits _ (xor_lt 32 c.from.result c.word.result (omega (arith, c.from.ensures)) (omega arith)) }

pub returns : goal.returns
returns c =
    ap (λ (n : ℕ). divided_four (bit_xor n c.word.result)) c.from.ensures
    ∙ crc-four _ _ _ _ _ _ (omega arith) (omega arith) (omega arith) (omega arith) (omega arith) c.word.ensures
