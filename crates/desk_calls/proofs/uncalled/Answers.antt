use Rattle.desk_crosspoints.specs.Crosspoints.{clear}
use mathlib.Core.Path.{refl}
use Rattle.desk_calls.proofs.uncalled.Goals as goal

pub returns : goal.returns
unfolding clear
returns c = refl
