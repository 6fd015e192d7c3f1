use mathlib.Core.Path.{ap}
use lib.IntN.{nat_abs}
use Rattle.ber_integers.proofs.Signs.{negative, natural-sign, word}
use Rattle.ber_integers.proofs.magnitude.Goals as goal

pub overflow_cast-result : goal.overflow_cast-result
overflow_cast-result c = word _ c.args.x c.ranges.x (negative c.args.x c.ranges.x c.if-x-lt0.true).0

pub overflow_cast-result-else-x-lt0 : goal.overflow_cast-result-else-x-lt0
overflow_cast-result-else-x-lt0 c = word _ c.args.x c.ranges.x (natural-sign c.args.x c.ranges.x c.if-x-lt0.false).0

pub returns-then-x-lt0 : goal.returns-then-x-lt0
returns-then-x-lt0 c = let e = ap nat_abs (negative c.args.x c.ranges.x c.if-x-lt0.true).0 in record { value = e; upper_bound = rw e c.ranges.x.sfits }

pub returns-else-x-lt0 : goal.returns-else-x-lt0
returns-else-x-lt0 c = let e = ap nat_abs (natural-sign c.args.x c.ranges.x c.if-x-lt0.false).0 in record { value = e; upper_bound = rw e c.ranges.x.sfits }
