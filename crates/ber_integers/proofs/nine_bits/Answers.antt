use native.Mathlib.Omega.{arith}
use Rattle.ber_integers.proofs.nine_bits.Goals as goal

pub overflow_mul-result : goal.overflow_mul-result
overflow_mul-result c = omega arith

pub overflow_add-result : goal.overflow_add-result
overflow_add-result c = omega arith
