use mathlib.Core.Path.{refl}
use Rattle.glow_rows.specs.Entry.{words, blanks}
use Rattle.glow_rows.proofs.begun.Goals as goal

pub returns : goal.returns
unfolding words blanks
returns c = refl
