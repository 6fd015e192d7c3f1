use mathlib.Core.Path.{sym, ap}
use mathlib.Core.Bool.{Bool}
use native.Mathlib.Omega.{arith}
use Rattle.ber_reals.specs.Write.{first_octet}
use Rattle.ber_real_writer.proofs.first_octet.Goals as goal

pub returns-then-negative : goal.returns-then-negative
returns-then-negative c = record { value = sym (ap (λ (s : Bool). first_octet s c.args.n) c.if-negative.true); upper_bound = omega arith }

pub returns-else-negative : goal.returns-else-negative
returns-else-negative c = record { value = sym (ap (λ (s : Bool). first_octet s c.args.n) c.if-negative.false); upper_bound = omega arith }
