use borrow.Author.Rules.{rules}
use Rattle.sheet_entries.proofs.Numbers.{path-is}
use Rattle.sheet_entries.proofs.path_of.Goals as goal

pub returns : goal.returns
returns c = record { taken = path-is _ _ _ _ _ c.span_of-span.ensures.s_value c.numbers_of.ensures; list_len = search rules }
