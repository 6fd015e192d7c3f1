use mathlib.Core.Path.{◌∙◌}
use native.Mathlib.Omega.{arith}
use Rattle.base_output.proofs.Laws.{wrote_none, wrote_then}
use Rattle.framing_lines.proofs.Laws.{decimal-none, decimal-one, decimal-more}
use Rattle.framing_lines.proofs.+put_digits.Goals as goal

pub returns-then-k-eq0-clause-n_value : goal.returns-then-k-eq0-clause-n_value
returns-then-k-eq0-clause-n_value t c = rw (decimal-none _ _ c.if-k-eq0.true) (wrote_none _ _)

pub returns-then-n-lt10-clause-n_value : goal.returns-then-n-lt10-clause-n_value
returns-then-n-lt10-clause-n_value t c = rw (decimal-one _ _ c.if-k-eq0.false c.if-n-lt10.true) (c.put.ensures.b_value (omega arith))

pub returns-clause-n_value : goal.returns-clause-n_value
returns-clause-n_value t c =
    rw (decimal-more _ _ c.if-k-eq0.false c.if-n-lt10.false)
    (wrote_then _ _ _ _ c.put_digits-next.ensures.n_value ∙ c.put-2.ensures.b_value (omega arith))
