use native.Mathlib.Omega.{arith}
use mathlib.Core.Path.{refl}
use Rattle.glow_sizes.proofs.rule_in.Goals as goal

pub overflow_mul-result : goal.overflow_mul-result
overflow_mul-result c = omega arith

pub overflow_shr-result : goal.overflow_shr-result
overflow_shr-result c = omega arith

pub returns : goal.returns
returns c = refl
