use Rattle.glow_leaves.proofs.Laws.{refused-by}
use Rattle.glow_grammar.specs.Leaf.{judged}
use mathlib.Core.Path.{ap, ◌∙◌}
use Rattle.glow_leaves.proofs.judge.Goals as goal

pub returns-in-Found : goal.returns-in-Found
returns-in-Found c =
    let a = c.args in
    ap (judged a.s.now a.at a.what a.above) c.in-Found.is ∙ c.value_leaf.ensures

pub returns-in-Other : goal.returns-in-Other
returns-in-Other c =
    let a = c.args in
    ap (judged a.s.now a.at a.what a.above) c.in-Other.is

pub returns-in-Refused : goal.returns-in-Refused
returns-in-Refused c =
    let a = c.args in
    ap (judged a.s.now a.at a.what a.above) c.in-Refused.is ∙ refused-by _ c.wide.ensures
