use mathlib.Core.Path.{◌≡◌}
use lib.ListN.{drop}
use Rattle.sheet_rules.specs.Lines.{lines_in, is_bad}
use Rattle.sheet_rules.specs.Steps.{bad_from}
use Rattle.sheet_rules.proofs.has_bad_line.Given as goal

-- The invariant: what is left of the text, from what has come of its line, is bad exactly if the whole is.
abbrev pub invariant-loop-b : goal.invariant-loop-b
invariant-loop-b l = is_bad (lines_in l.text) ≡ bad_from l.k (drop l.b-index l.text)
