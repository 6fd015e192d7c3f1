use mathlib.Core.Path.{sym, ap, ◌∙◌}
use Prim.Native.Nat.{ℕ, ◌/◌, ◌%◌, ◌^◌}
use lib.Bits.{bit_xor}
use Rattle.framing_checksum.proofs.Division.{crc-step, divided}
use Rattle.framing_checksum.proofs.crc_step.Goals as goal

pub returns : goal.returns
returns c =
    let crc = c.args.crc in
    ap (λ (b : ℕ). bit_xor (crc / 2 ^ 8) (divided (bit_xor crc b % 2 ^ 8))) c.from.ensures ∙ sym (crc-step crc c.args.b)
