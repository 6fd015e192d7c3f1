use Prim.Native.Nat.{◌<◌, ◌^◌}
use Rattle.sheet_entries.proofs.Members.{limit-some}
use borrow.Author.Rules.{rules}
use Rattle.sheet_entries.proofs.limit_of.Goals as goal

pub returns-in-Some : goal.returns-in-Some
returns-in-Some c =
    let h : c.number_word-w.result < 2 ^ 64 = search rules in
    let both = limit-some _ _ _ c.in-Some.is c.number_word-w.ensures h in record { n_value = both.0; n_bound = both.1 }
