use Rattle.glow_leaves.proofs.Laws.{numbers-cut, numbers-path, numbers-list}
use Rattle.glow_grammar.specs.Leaf.{oid_leaf}
use borrow.Author.Tests.{leb-true}
use mathlib.Core.Path.{sym, ap, ◌∙◌}
use Rattle.glow_leaves.proofs.numbers_at.Goals as goal

pub returns-then-not-holds : goal.returns-then-not-holds
returns-then-not-holds c = numbers-cut _ _ _ _ _ _ (c.holds.ensures ∙ c.if-not-holds.true)

pub path_leaf-requires : goal.path_leaf-requires
path_leaf-requires c = leb-true _ _ (c.holds.ensures ∙ c.if-not-holds.false)

pub returns-then-what-eq-PATH : goal.returns-then-what-eq-PATH
returns-then-what-eq-PATH c =
    let h = c.holds.ensures ∙ c.if-not-holds.false in
    numbers-path _ _ _ _ _ _ h c.if-what-eq-PATH.true ∙ c.path_leaf.ensures

pub returns : goal.returns
returns c =
    let a = c.args in
    let h = c.holds.ensures ∙ c.if-not-holds.false in
    let q = sym c.read_oid.ensures.is in
    numbers-list _ _ _ _ _ _ h c.if-what-eq-PATH.false ∙ ap (oid_leaf a.at a.start a.len a.above) q ∙ c.list_leaf.ensures
