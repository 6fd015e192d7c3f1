use mathlib.Core.Path.{◌∙◌}
use native.Mathlib.Omega.{arith}
use Rattle.glow_grammar.proofs.Tables.{expects-any, expects-text, expects-flag, expects-step, expects-numbers, expects-int}
use Rattle.glow_grammar.proofs.fits.Goals as goal

pub returns-in-3 : goal.returns-in-3
returns-in-3 c = expects-flag _ _ c.in-3.is

pub returns-in-4 : goal.returns-in-4
returns-in-4 c = expects-any _ _ c.in-4.is ∙ c.is_value.ensures

pub returns-in-5 : goal.returns-in-5
returns-in-5 c = expects-step _ _ c.in-5.is

pub returns-in-0-to-2 : goal.returns-in-0-to-2
returns-in-0-to-2 c = expects-text _ _ (omega arith)

pub returns-in-6-to-7 : goal.returns-in-6-to-7
returns-in-6-to-7 c = expects-numbers _ _ (omega arith) (omega arith)

pub returns-in_default : goal.returns-in_default
returns-in_default c = expects-int _ _ (omega arith)
