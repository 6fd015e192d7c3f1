use native.Mathlib.Omega.{arith}
use mathlib.Core.Path.{sym, ◌∙◌}
use Rattle.desk_crosspoints.proofs.Laws.{fit-kind, fit-targets, fit-sources, fit-rest, both-no, both_yes}
use Rattle.desk_crosspoints.proofs.figures_fit.Goals as goal

pub returns-then-f-gt-N_TO_N : goal.returns-then-f-gt-N_TO_N
returns-then-f-gt-N_TO_N c = fit-kind _ (omega arith)

pub returns-then-not-is_count : goal.returns-then-not-is_count
returns-then-not-is_count c =
    let the-is-count = c.is_count in
    let the-if2 = c.if-not-is_count in
    fit-targets _ (omega arith) (the-is-count.ensures ∙ the-if2.true)

pub returns-then-not-is_count-2 : goal.returns-then-not-is_count-2
returns-then-not-is_count-2 c =
    let the-is-count = c.is_count in
    let the-if2 = c.if-not-is_count in
    let the-is-count2 = c.is_count-2 in
    let the-if3 = c.if-not-is_count-2 in
    fit-sources _ (omega arith) (the-is-count.ensures ∙ the-if2.false) (the-is-count2.ensures ∙ the-if3.true)

pub returns-then-is_limit : goal.returns-then-is_limit
returns-then-is_limit c =
    fit-rest _ (omega arith) (c.is_count.ensures ∙ c.if-not-is_count.false) (c.is_count-2.ensures ∙ c.if-not-is_count-2.false)
    ∙ both_yes _ _ (c.is_limit.ensures ∙ c.if-is_limit.true) ∙ c.is_limit-then-is_limit.ensures

pub returns-else-is_limit : goal.returns-else-is_limit
returns-else-is_limit c =
    fit-rest _ (omega arith) (c.is_count.ensures ∙ c.if-not-is_count.false) (c.is_count-2.ensures ∙ c.if-not-is_count-2.false)
    ∙ both-no _ _ (c.is_limit.ensures ∙ c.if-is_limit.false) ∙ sym c.if-is_limit.false
