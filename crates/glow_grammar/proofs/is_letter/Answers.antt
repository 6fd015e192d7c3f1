use mathlib.Core.Path.{sym, ◌∙◌}
use Rattle.glow_grammar.proofs.Laws.{letter_in, letter-out}
use Rattle.glow_grammar.proofs.is_letter.Goals as goal

pub returns-then-is_ascii_alphabetic : goal.returns-then-is_ascii_alphabetic
returns-then-is_ascii_alphabetic c = letter_in _ c.if-is_ascii_alphabetic.ensures.cases ∙ sym c.if-is_ascii_alphabetic.true

pub returns-else-is_ascii_alphabetic : goal.returns-else-is_ascii_alphabetic
returns-else-is_ascii_alphabetic c = letter-out _ c.if-is_ascii_alphabetic.ensures.cases
