use Rattle.desk_words.proofs.Laws.{limit-tested}
use mathlib.Core.Path.{◌∙◌}
use Rattle.desk_words.proofs.limit_at.Goals as goal

pub returns : goal.returns
returns c = c.then_some.ensures ∙ limit-tested c.args.given c.args.n
