use native.Mathlib.Omega.{arith}
use Rattle.ber_real_sizes.proofs.CodeLaws.{power-low, power-mid, power-high}
use Rattle.ber_real_sizes.proofs.written_at.Goals as goal

pub returns-then-units : goal.returns-then-units
returns-then-units c = let p = power-low c.args.units (omega arith) (omega arith) in record { value = omega arith; lower_bound = (omega arith, omega arith) }

pub returns-then-units-2 : goal.returns-then-units-2
returns-then-units-2 c = let p = power-mid c.args.units (omega arith) (omega arith) (omega arith) in record { value = omega arith; lower_bound = (omega arith, omega arith) }

pub returns : goal.returns
returns c = let p = power-high c.args.units (omega arith) (omega arith) in record { value = omega arith; lower_bound = (omega arith, omega arith) }
