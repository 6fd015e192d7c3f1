use mathlib.Core.Path.{◌≡◌}
use lib.ListN.{drop}
use Rattle.sheet_rules.specs.Reading.{first_refused}
use Rattle.sheet_entries.proofs.first_refused.Given as goal

abbrev pub invariant-loop-j : goal.invariant-loop-j
invariant-loop-j l = first_refused l.answers ≡ first_refused (drop l.j l.answers)
