use Rattle.ber_integers.proofs.Promises.{promised, natural-row}
use Rattle.ber_integers.proofs.Laws.{unsigned-long, unsigned-out, unsigned_is}
use Rattle.ber_integers.proofs.read_unsigned.Goals as goal

pub returns-in_err-octets : goal.returns-in_err-octets
returns-in_err-octets c = rw c.from_residual.ensures (promised natural-row (unsigned-out _ _ _ c.in_err-octets.ensures))

pub returns-then-n-gt8 : goal.returns-then-n-gt8
returns-then-n-gt8 c = promised natural-row (unsigned-long _ _ _ c.if-n-gt8.true)

pub returns : goal.returns
returns c =
    let h = c.in_ok-octets.ensures in
    promised natural-row (rw (c.natural_of.ensures.value, h.1) (unsigned_is _ _ _ c.if-n-gt8.false h.0))
