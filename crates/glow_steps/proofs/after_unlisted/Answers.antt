use mathlib.Core.Path.{ap, sym, ◌∙◌}
use native.Mathlib.Omega.{arith}
use Rattle.glow_steps.specs.Members.{after_other}
use Rattle.glow_steps.proofs.after_unlisted.Goals as goal

pub after_other-requires : goal.after_other-requires
after_other-requires c = let w = c.wide.ensures in omega (arith, w.upper_bound)

pub returns : goal.returns
returns c = ap (after_other _ _) (sym c.wide.ensures.value) ∙ c.after_other.ensures
