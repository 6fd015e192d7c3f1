use Rattle.ber_integers.proofs.Promises.{promised}
use mathlib.Core.Path.{sym, ◌∙◌}
use borrow.Author.Tests.{leb-true}
use Rattle.ber_values.proofs.Laws.{answer-row, content-unlisted, content-cut, content-kind}
use Rattle.ber_values.proofs.read_content.Goals as goal

pub returns-then-not-listed : goal.returns-then-not-listed
returns-then-not-listed c = promised answer-row (content-unlisted _ _ _ _ _ (sym c.listed.ensures ∙ c.if-not-listed.true))

pub returns-then-not-holds : goal.returns-then-not-holds
returns-then-not-holds c =
    promised answer-row (content-cut _ _ _ _ _
    (sym c.listed.ensures ∙ c.if-not-listed.false)
    (sym c.holds.ensures ∙ c.if-not-holds.true))

pub of_kind-requires : goal.of_kind-requires
of_kind-requires c = leb-true _ _ (sym c.holds.ensures ∙ c.if-not-holds.false)

pub returns : goal.returns
returns c =
    promised answer-row (c.of_kind.ensures
    ∙ content-kind _ _ _ _ _ (sym c.listed.ensures ∙ c.if-not-listed.false)
    (sym c.holds.ensures ∙ c.if-not-holds.false))
