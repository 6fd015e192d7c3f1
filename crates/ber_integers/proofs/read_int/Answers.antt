use Rattle.ber_integers.proofs.Promises.{promised, integer-row}
use mathlib.Core.Path.{sym, ◌∙◌}
use native.Mathlib.Omega.{arith}
use Rattle.ber_integers.proofs.Laws.{integer-out, integer-short, integer-zeros, integer-ones, integer-free}
use Rattle.ber_integers.proofs.read_int.Goals as goal

pub returns-in_err-held : goal.returns-in_err-held
returns-in_err-held c = rw c.from_residual.ensures (promised integer-row (integer-out _ _ _ c.in_err-held.ensures))

pub returns-then-n-lt2 : goal.returns-then-n-lt2
returns-then-n-lt2 c = promised integer-row (c.read_signed.ensures.is ∙ integer-short _ _ _ c.in_ok-held.ensures.0 (omega arith))

pub returns-then-nine-eq0 : goal.returns-then-nine-eq0
returns-then-nine-eq0 c = promised integer-row (integer-zeros _ _ _ c.in_ok-held.ensures.0 (omega arith) (sym c.nine_bits-nine.ensures ∙ c.if-nine-eq0.true))

pub returns-then-nine-eq511 : goal.returns-then-nine-eq511
returns-then-nine-eq511 c = promised integer-row (integer-ones _ _ _ c.in_ok-held.ensures.0 (omega arith) (sym c.nine_bits-nine.ensures ∙ c.if-nine-eq511.true))

pub returns : goal.returns
returns c =
    promised integer-row (let e = c.nine_bits-nine.ensures in
    c.read_signed-2.ensures.is ∙ integer-free _ _ _ c.in_ok-held.ensures.0 (omega arith) (λ h. c.if-nine-eq0.false (e ∙ h))
    (λ h. c.if-nine-eq511.false (e ∙ h)))
