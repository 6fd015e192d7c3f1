use mathlib.Core.Path.{sym, ◌∙◌}
use Rattle.desk_requests.proofs.Answers.{request-legal-not}
use Rattle.desk_requests.proofs.Steps.{request-path}
use Rattle.desk_calls.proofs.Served.{answer-same}
use Rattle.desk_calls.proofs.request.Goals as goal

pub returns-then-not-is_legal : goal.returns-then-not-is_legal
returns-then-not-is_legal c =
    let the-is-legal = c.is_legal in
    let the-if1 = c.if-not-is_legal in
    λ path. request-legal-not _ _ (the-is-legal.ensures ∙ the-if1.true)

pub request_legal-answered-requires : goal.request_legal-answered-requires
request_legal-answered-requires c =
    let the-is-legal = c.is_legal in
    let the-if1 = c.if-not-is_legal in
    let the-total-of = c.total_of-total in
    record { crosspoints_value = the-is-legal.ensures ∙ the-if1.false; crosspoints_value_2 = the-total-of.ensures }

pub returns : goal.returns
returns c =
    λ path. answer-same _ _ _ _ (request-path _ _ _ ∙ c.request_legal-answered.ensures.operation_value) (c.from.ensures ∙ sym c.number_of.ensures)
