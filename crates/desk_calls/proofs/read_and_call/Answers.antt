use Rattle.desk_crosspoints.proofs.Paths.{desk-legal, desk-fits, path-short}
use Rattle.desk_crosspoints.specs.Crosspoints.{clear}
use Rattle.desk_calls.proofs.AsRead.{octets-all, count-rows, count-few, after-unready, after-served}
use mathlib.Core.Path.{refl, ◌∙◌}
use native.Mathlib.Omega.{arith}
use Rattle.desk_calls.proofs.read_and_call.Goals as goal

pub returns-then-not-fit-clause-table_after : goal.returns-then-not-fit-clause-table_after
returns-then-not-fit-clause-table_after c =
    let the-read = c.read-answer in
    let the-unready = c.unready-called in
    let g = c.desk_is_legal-fit.ensures ∙ c.if-not-fit.true in
    (after-unready _ _ the-read.result _ the-read.ensures _ _ c.in-Read.is _ g _ the-unready.ensures).1

pub serve-answered-requires : goal.serve-answered-requires
serve-answered-requires c =
    let the-read = c.read-answer in
    let g = c.desk_is_legal-fit.ensures ∙ c.if-not-fit.false in
    let k = count-rows _ _ the-read.result _ the-read.ensures _ _ c.in-Read.is in
    let l = count-few _ _ the-read.result _ the-read.ensures _ _ c.in-Read.is in
    (desk-legal _ g, (path-short _ (desk-fits _ g), (omega (arith, k), omega (arith, l))))

pub returns-clause-table_after : goal.returns-clause-table_after
unfolding clear
returns-clause-table_after c =
    let the-read = c.read-answer in
    let the-serve = c.serve-answered in
    let octets = octets-all c.args.m.now (λ i. omega (arith, c.type_inv.m i)) in
    let g = c.desk_is_legal-fit.ensures ∙ c.if-not-fit.false in
    (after-served _ _ the-read.result _ the-read.ensures _ _ c.in-Read.is _ octets g _ _ refl the-serve.ensures).1
