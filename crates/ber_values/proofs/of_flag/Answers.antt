use mathlib.Core.Path.{sym, ap}
use Rattle.ber_values.specs.Value.{on_flag}
use Rattle.ber_values.proofs.of_flag.Goals as goal

pub returns-in-Some : goal.returns-in-Some
returns-in-Some c = sym (ap (on_flag c.args.at c.args.next) c.in-Some.is)

pub returns-in-None : goal.returns-in-None
returns-in-None c = sym (ap (on_flag c.args.at c.args.next) c.in-None.is)
