use Rattle.desk_crosspoints.proofs.Laws.{bit-byte}
use mathlib.Core.Path.{sym, ◌∙◌}
use Rattle.desk_crosspoints.proofs.bit.Goals as goal

pub returns : goal.returns
returns c = bit-byte c.args.c ∙ sym c.from.ensures
