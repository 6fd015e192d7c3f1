use native.Mathlib.Omega.{arith}
use Rattle.ber_real_writer.proofs.WriteLaws.{exponent-up-one, exponent-up-two, exponent-down-one, exponent-down-two}
use Rattle.ber_real_writer.proofs.exponent.Goals as goal

-- `ber_real_writer::exponent` meets its contract. Assumes nothing.
pub returns-then-up-lt128 : goal.returns-then-up-lt128
returns-then-up-lt128 c = record { value_value = exponent-up-one c.args.units (omega arith) (omega arith); le_count = (omega arith, omega arith) }

pub returns-then-units-ge1074 : goal.returns-then-units-ge1074
returns-then-units-ge1074 c = record { value_value = exponent-up-two c.args.units (omega arith) (omega arith) (omega arith); le_count = (omega arith, omega arith) }

pub returns-then-down-le128 : goal.returns-then-down-le128
returns-then-down-le128 c = record { value_value = exponent-down-one c.args.units (omega arith) (omega arith); le_count = (omega arith, omega arith) }

pub returns : goal.returns
returns c = record { value_value = exponent-down-two c.args.units (omega arith) (omega arith); le_count = (omega arith, omega arith) }
