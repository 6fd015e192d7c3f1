use Rattle.sheet_stream.proofs.Steps.{no-message, taken-high, taken-on, taken-message}
use native.Mathlib.Omega.{arith}
use borrow.Author.Rules.{rules}
use Rattle.sheet_stream.proofs.take_byte.Goals as goal

pub returns-then-number-ge10 : goal.returns-then-number-ge10
returns-then-number-ge10 c =
    taken-high c.args.tally _ _ (search rules) (search rules) c.feed-fed.result _ c.feed-fed.ensures _ c.number-number.ensures (omega arith)

pub returns-in_default : goal.returns-in_default
returns-in_default c =
    taken-on c.args.tally _ _ (search rules) (search rules) c.feed-fed.result _ c.feed-fed.ensures (omega arith)
    (no-message c.feed-fed.result.event c.in_default.not-Message (omega arith))

pub returns : goal.returns
returns c =
    taken-message c.args.tally _ _ (search rules) (search rules) c.feed-fed.result _ c.feed-fed.ensures _ _ c.in-Message.is _
    c.another.ensures
