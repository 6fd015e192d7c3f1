use Rattle.std.proofs.Common.{◌≡◌, ◌<◌, drop}
use Rattle.program_lines.specs.Words.{digits_after, number_of}
use Rattle.program_lines.proofs.text.number.Given as goal

abbrev pub invariant-loop-b : goal.invariant-loop-b
invariant-loop-b l = (l.n < 18446744073709551616) × (digits_after l.n (drop l.b-index l.text) ≡ number_of l.text)
