use Prim.Native.Nat.{ℕ}
use mathlib.Core.Path.{sym, ◌∙◌}
use lib.Dec.{leb}
use Rattle.std.proofs.Common.{rules, tests}
use Rattle.std.proofs.lemmas.Iterator.{YieldsList-from_slice}
use Rattle.std.proofs.lemmas.Iterator.Search.{all_from_yields_List}
use Rattle.ber_identifiers.proofs.Laws.{range-all}
use Rattle.ber_identifiers.proofs.in_range.Goals as goal

pub returns : goal.returns
returns c =
    all_from_yields_List (λ (n : ℕ). leb n 2147483647) _ _ _ c.all.ensures.ran (YieldsList-from_slice c.args.ns.now cc) (λ x b q k. search (rules, tests))
    ∙ sym (range-all c.args.ns.now)
