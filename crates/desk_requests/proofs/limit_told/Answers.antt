use native.Mathlib.Omega.{arith}
use mathlib.Core.Path.{◌∙◌}
use Rattle.desk_requests.proofs.Totals.{limit-less, limit-many, limit-in, limit-over}
use Rattle.desk_requests.proofs.limit_told.Goals as goal

pub returns-then-operation-eq-DISCONNECT : goal.returns-then-operation-eq-DISCONNECT
returns-then-operation-eq-DISCONNECT c = limit-less c.args.operation _ (omega arith)

pub returns-then-is_many : goal.returns-then-is_many
returns-then-is_many c =
    let the-is-many = c.is_many in
    let the-if2 = c.if-is_many in
    limit-many c.args.f _ _ _ (λ z. omega arith) (the-is-many.ensures ∙ the-if2.true)

pub returns-then-in_total : goal.returns-then-in_total
returns-then-in_total c =
    let the-is-many = c.is_many in
    let the-if2 = c.if-is_many in
    let the-in-total = c.in_total in
    let the-if3 = c.if-in_total in
    limit-in c.args.f _ _ _ (λ z. omega arith) (the-is-many.ensures ∙ the-if2.false) (the-in-total.ensures ∙ the-if3.true)

pub returns : goal.returns
returns c =
    let the-is-many = c.is_many in
    let the-if2 = c.if-is_many in
    let the-in-total = c.in_total in
    let the-if3 = c.if-in_total in
    limit-over c.args.f _ _ _ (λ z. omega arith) (the-is-many.ensures ∙ the-if2.false) (the-in-total.ensures ∙ the-if3.false)
