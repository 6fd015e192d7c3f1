use Rattle.glow_grammar.proofs.Laws.{most-3, most-2, most-1, most_other}
use Rattle.glow_grammar.proofs.most_of.Goals as goal

pub returns-in-10 : goal.returns-in-10
returns-in-10 c = most-3 _ c.in-10.is

pub returns-in-11 : goal.returns-in-11
returns-in-11 c = most-2 _ c.in-11.is

pub returns-in-12 : goal.returns-in-12
returns-in-12 c = most-1 _ c.in-12.is

pub returns-in_default : goal.returns-in_default
returns-in_default c = most_other _ c.in_default.in_default-own.rest.0.0.1 c.in_default.in_default-own.rest.0.1 c.in_default.in_default-own.rest.1
