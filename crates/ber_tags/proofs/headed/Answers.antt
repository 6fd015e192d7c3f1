use mathlib.Core.Path.{sym, ap}
use Rattle.ber_tags.specs.Tag.{head_of}
use Rattle.ber_tags.proofs.headed.Goals as goal

pub returns-in-Ok : goal.returns-in-Ok
returns-in-Ok c = sym (ap (head_of c.args.b c.args.number) c.in-Ok.is)

pub returns-in-Err : goal.returns-in-Err
returns-in-Err c = sym (ap (head_of c.args.b c.args.number) c.in-Err.is)
