use Rattle.std.proofs.Common.{rules, ◌∙◌, sym, tests}
use Rattle.std.proofs.lemmas.Iterator.{YieldsList-from_slice}
use Rattle.std.proofs.lemmas.Iterator.Search.{all_from_yields_List}
use lib.Dec.{eqb}
use Rattle.program_lines.proofs.Laws.{clear-all}
use Rattle.program_lines.proofs.room.is_clear.Goals as goal

pub returns : goal.returns
returns c =
    clear-all _
    ∙ sym (all_from_yields_List (λ b. eqb b 0) _ _ _ c.all.ensures.ran (YieldsList-from_slice c.args.out.now cc) (λ x b q k. search (rules, tests)))
