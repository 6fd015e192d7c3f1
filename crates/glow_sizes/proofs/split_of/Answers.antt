use Rattle.glow_sizes.proofs.Places.{split-all, split_one}
use native.Mathlib.Omega.{arith}
use Rattle.glow_sizes.proofs.split_of.Goals as goal

pub returns-then-contents_of-eq-NONE : goal.returns-then-contents_of-eq-NONE
returns-then-contents_of-eq-NONE c = record { kind_value = split-all _ _ c.contents_of.ensures c.if-contents_of-eq-NONE.true; upper_bound = omega arith }

pub returns : goal.returns
returns c = record { kind_value = split_one _ _ c.contents_of.ensures c.if-contents_of-eq-NONE.false; upper_bound = omega arith }
