use borrow.Enum.Refused.{opened}
use Rattle.turns.proofs.Steps.{other-answer, to-refused, to-served}
use Rattle.turns.proofs.message.Goals as goal

pub returns-in_default : goal.returns-in_default
returns-in_default c =
    let a = c.read_and_call-both.result.answer in
    to-refused _ _ _ a _ c.read_and_call-both.ensures.table_value c.read_and_call-both.result.called _ c.read_and_call-both.ensures.table_after
    (other-answer a (opened c.in_default.in_default-own.keys2))

pub returns : goal.returns
returns c =
    to-served _ _ _ c.read_and_call-both.result.answer _ c.read_and_call-both.ensures.table_value c.read_and_call-both.result.called _
    c.read_and_call-both.ensures.table_after _ _ c.in-Read.is
