use mathlib.Core.Path.{◌∙◌}
use native.Mathlib.Omega.{arith}
use Rattle.desk_setup.proofs.Laws.{setup-rows, setup-message, setup-desk, by_entries}
use Rattle.desk_setup.proofs.is_ready.Goals as goal

pub returns-then-rows-gt-MOST_ENTRIES : goal.returns-then-rows-gt-MOST_ENTRIES
returns-then-rows-gt-MOST_ENTRIES c =
    setup-rows _ _ _ _ _ (omega arith)

pub returns-then-s-gt-MOST_BYTES : goal.returns-then-s-gt-MOST_BYTES
returns-then-s-gt-MOST_BYTES c =
    setup-message _ _ _ _ _ (omega arith) (omega arith)

pub returns-then-not-desk_is_legal : goal.returns-then-not-desk_is_legal
returns-then-not-desk_is_legal c =
    let the-desk-is-legal = c.desk_is_legal in
    let the-if3 = c.if-not-desk_is_legal in
    setup-desk _ _ _ _ _ (omega arith) (omega arith)
    (the-desk-is-legal.ensures ∙ the-if3.true)

pub returns : goal.returns
returns c =
    let the-desk-is-legal = c.desk_is_legal in
    let the-if3 = c.if-not-desk_is_legal in
    let the-measure = c.measure in
    by_entries _ _ _ _ _ (omega arith) (omega arith)
    (the-desk-is-legal.ensures ∙ the-if3.false) _ the-measure.ensures
