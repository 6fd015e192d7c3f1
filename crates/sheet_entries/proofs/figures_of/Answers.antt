use Prim.Native.Nat.{◌<◌, ◌^◌}
use Rattle.sheet_entries.proofs.Members.{figures-is}
use borrow.Author.Rules.{rules}
use Rattle.sheet_entries.proofs.figures_of.Goals as goal

pub returns : goal.returns
returns c =
    let a : c.number_word.result < 2 ^ 64 = search rules in
    let b : c.number_word-2.result < 2 ^ 64 = search rules in
    let d : c.number_word-3.result < 2 ^ 64 = search rules in
    figures-is c.args.row.now _ c.matrix_at-e.ensures.value c.matrix_at-e.ensures.matrix_words _ _ _ _ _
    c.number_word.ensures a c.number_word-2.ensures b c.number_word-3.ensures d
    c.limit_of-total.ensures.n_value c.limit_of-total.ensures.n_bound c.limit_of-each.ensures.n_value c.limit_of-each.ensures.n_bound
