use Rattle.glow_grammar.proofs.Laws.{word_low, word-high, word-under, word-most}
use lib.Dec.{leb}
use mathlib.Core.Path.{ap, ◌∙◌}
use native.Mathlib.Omega.{arith}
use Rattle.glow_grammar.proofs.in_range.Goals as goal

pub returns-then-w-le2147483647 : goal.returns-then-w-le2147483647
returns-then-w-le2147483647 c = word_low _ _ c.if-what-eq-INT_32.true (omega arith)

pub returns-then-what-eq-INT_32 : goal.returns-then-what-eq-INT_32
returns-then-what-eq-INT_32 c = word-high _ _ c.if-what-eq-INT_32.true (omega arith)

pub returns-then-w-least_of : goal.returns-then-w-least_of
returns-then-w-least_of c = let h = c.least_of.ensures in word-under _ _ c.if-what-eq-INT_32.false (omega arith)

pub returns : goal.returns
returns c =
    let h = c.least_of.ensures in
    word-most _ _ c.if-what-eq-INT_32.false (omega arith) ∙ ap (leb _) c.most_of.ensures
