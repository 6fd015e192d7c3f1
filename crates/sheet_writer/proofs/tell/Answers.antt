use Rattle.sheet_writer.specs.Steps.{said}
use mathlib.Core.Path.{ap}
use Rattle.sheet_writer.proofs.tell.Goals as goal

pub returns-in-Some : goal.returns-in-Some
returns-in-Some c = ap said c.in-Some.is
