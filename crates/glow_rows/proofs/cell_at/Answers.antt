use mathlib.Core.Path.{ap, ◌∙◌}
use mathlib.Core.List.{List, []}
use native.Mathlib.Omega.{arith}
use Rattle.glow_rows.specs.Row.{cell_in}
use Rattle.glow_rows.proofs.Words.{cell-in-row, cell-rowless}
use Rattle.glow_rows.proofs.cell_at.Goals as goal

pub returns-in-Some : goal.returns-in-Some
returns-in-Some c =
    c.cell_in.ensures ∙ ap (λ (r : List _). cell_in r c.args.c) (c.in-Some.ensures.lookup.4 (omega arith) []) ∙ cell-in-row _ _ _

pub returns-in-None : goal.returns-in-None
returns-in-None c = c.absent.ensures ∙ cell-rowless _ _ _ c.in-None.ensures.lookup.3
