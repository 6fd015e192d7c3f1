use mathlib.Core.Path.{ap}
use Rattle.ber_values.specs.Value.{is_listed}
use Rattle.glow_grammar.proofs.Tables.{unlisted}
use Rattle.glow_grammar.proofs.is_value.Goals as goal

pub returns-in-1 : goal.returns-in-1
unfolding is_listed
returns-in-1 c = ap is_listed c.in-1.is

pub returns-in-2 : goal.returns-in-2
unfolding is_listed
returns-in-2 c = ap is_listed c.in-2.is

pub returns-in-4 : goal.returns-in-4
unfolding is_listed
returns-in-4 c = ap is_listed c.in-4.is

pub returns-in-9 : goal.returns-in-9
unfolding is_listed
returns-in-9 c = ap is_listed c.in-9.is

pub returns-in-12 : goal.returns-in-12
unfolding is_listed
returns-in-12 c = ap is_listed c.in-12.is

pub returns-in_default : goal.returns-in_default
returns-in_default c =
    unlisted _ c.in_default.in_default-own.rest.0.0.0.0.1 c.in_default.in_default-own.rest.0.0.0.1 c.in_default.in_default-own.rest.0.0.1
    c.in_default.in_default-own.rest.0.1 c.in_default.in_default-own.rest.1
