use borrow.Author.Rules.{rules}
use Rattle.desk_rows.proofs.Rows.{number_is}
use Rattle.desk_rows.proofs.number.Goals as goal

pub returns : goal.returns
returns c = number_is _ _ (search rules) c.number_from.ensures
