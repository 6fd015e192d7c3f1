use mathlib.Core.Path.{refl}
use Rattle.glow_grammar.specs.Grammar.{is_set}
use Rattle.glow_grammar.proofs.is_set.Goals as goal

pub returns : goal.returns
unfolding is_set
returns c = refl
