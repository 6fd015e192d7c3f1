use Rattle.desk_crosspoints.proofs.Paths.{desk-legal, desk-fits, path-short}
use Rattle.desk_setup.proofs.Laws.{ready-tells, ready-lengths}
use Rattle.desk_calls.proofs.Setup.{called-not, called-ready, unready-told, laid-zeros}
use Rattle.desk_crosspoints.specs.Crosspoints.{clear}
use mathlib.Core.Path.{refl, ◌∙◌}
use native.Mathlib.Omega.{arith}
use Rattle.desk_calls.proofs.call.Goals as goal

pub returns-then-not-is_ready : goal.returns-then-not-is_ready
returns-then-not-is_ready c =
    let the-is-ready = c.is_ready in
    let the-if1 = c.if-not-is_ready in
    let the-unready = c.unready in
    called-not _ _ _ _ _ (the-is-ready.ensures ∙ the-if1.true) ∙ unready-told _ _ the-unready.ensures

pub serve-answered-requires : goal.serve-answered-requires
serve-answered-requires c =
    let the-is-ready = c.is_ready in
    let the-if1 = c.if-not-is_ready in
    let h = the-is-ready.ensures ∙ the-if1.false in
    let d = (ready-tells _ _ _ _ _ h).0 in
    let l = ready-lengths _ _ _ _ _ h in
    (desk-legal _ d, (path-short _ (desk-fits _ d), (omega (arith, l.1), omega (arith, l.0, l.1))))

pub returns : goal.returns
unfolding clear
returns c =
    let the-is-ready = c.is_ready in
    let the-if1 = c.if-not-is_ready in
    let the-serve = c.serve-answered in
    called-ready _ _ _ _ _ (the-is-ready.ensures ∙ the-if1.false) ∙ laid-zeros _ _ _ refl the-serve.ensures
