use Rattle.desk_requests.proofs.Steps.{list-size}
use native.Mathlib.Omega.{arith}
use mathlib.Core.Path.{sym, ◌∙◌}
use Rattle.desk_requests.proofs.Laws.{becomes-less, becomes-list, becomes-one, becomes-more}
use Rattle.desk_requests.proofs.become_row.Goals as goal

pub returns-then-operation-eq-DISCONNECT : goal.returns-then-operation-eq-DISCONNECT
returns-then-operation-eq-DISCONNECT c =
    let the-mark = c.mark in
    the-mark.ensures ∙ sym (becomes-less _ _ _ _ (omega arith))

pub returns-then-operation-ne-CONNECT : goal.returns-then-operation-ne-CONNECT
returns-then-operation-ne-CONNECT c =
    let the-list-row = c.list_row in
    list-size _ _ _ _ c.requires.row_len the-list-row.ensures ∙ sym (becomes-list _ _ _ _ (λ e. omega arith) (λ e. omega arith))

pub returns-then-replaces : goal.returns-then-replaces
returns-then-replaces c =
    let the-replaces = c.replaces in
    let the-if3 = c.if-replaces in
    let the-list-row2 = c.list_row-then-replaces in
    list-size _ _ _ _ c.requires.row_len the-list-row2.ensures
    ∙ sym (becomes-one _ _ _ _ _ (omega arith) c.requires.sources_value (the-replaces.ensures ∙ the-if3.true))

pub returns : goal.returns
returns c =
    let the-mark2 = c.mark-2 in
    let the-replaces = c.replaces in
    let the-if3 = c.if-replaces in
    the-mark2.ensures ∙ sym (becomes-more _ _ _ _ _ (omega arith) c.requires.sources_value (the-replaces.ensures ∙ the-if3.false))
