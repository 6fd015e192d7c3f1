use mathlib.Core.Path.{sym, ap, ◌∙◌}
use native.Mathlib.Omega.{arith}
use Rattle.glow_paths.specs.Paths.{is_qualified}
use Rattle.glow_paths.proofs.Walk.{walk_start, walk-root, walk-past, walk-qualified, walk-short, walk-other, walk_up}
use Rattle.glow_paths.proofs.climbs.Goals as goal
use Rattle.glow_paths.proofs.climbs.Goals.{then-loop-p-test+else-p-word, else-loop-p-test}

pub loop-p-init : goal.loop-p-init
loop-p-init c = walk_start _ _ _ _ _ c.requires.0

pub returns-then-is_qualified : goal.returns-then-is_qualified
returns-then-is_qualified c =
    let w = c.word.ensures in
    walk-qualified _ _ _ _ _ _ _ c.requires.1 c.loop-p.invariant (omega arith) (omega arith) _ c.index-i.ensures _ c.cell_at-v.ensures _
    (ap is_qualified (sym c.word_at.ensures) ∙ (c.is_qualified.ensures ∙ c.if-is_qualified.true)) c.same_part.ensures

pub returns-in_default : goal.returns-in_default
returns-in_default c =
    let w = c.word.ensures in
    walk-short _ _ _ _ _ _ _ c.requires.1 c.loop-p.invariant (omega arith) (omega arith) _ c.index-i.ensures _ c.cell_at-v.ensures
    (ap is_qualified (sym c.word_at.ensures) ∙ (c.is_qualified.ensures ∙ c.if-is_qualified.false)) c.in_default.ensures.cases

pub returns-then-last-number_of : goal.returns-then-last-number_of
returns-then-last-number_of c =
    let w = c.word.ensures in
    walk-other _ _ _ _ _ _ _ c.requires.1 c.loop-p.invariant (omega arith) (omega arith) _ c.index-i.ensures _ c.cell_at-v.ensures
    (ap is_qualified (sym c.word_at.ensures) ∙ (c.is_qualified.ensures ∙ c.if-is_qualified.false)) _ _ c.in-Some.ensures.cases.0
    _ (c.number_of.ensures _) c.if-last-number_of.true

pub loop-p-preserved : goal.loop-p-preserved
loop-p-preserved c =
    let w = c.word.ensures in
    walk_up _ _ _ _ _ _ _ c.requires.1 c.loop-p.invariant (omega arith) (omega arith) _ c.index-i.ensures _ c.cell_at-v.ensures
    (ap is_qualified (sym c.word_at.ensures) ∙ (c.is_qualified.ensures ∙ c.if-is_qualified.false)) _ _ c.in-Some.ensures.cases.0
    _ (c.number_of.ensures _) c.in-Some.ensures.cases.1 c.if-last-number_of.false _ c.word_at-p.ensures

pub returns : goal.returns
returns c =
    elim c.loop-p-test.branch [
      | then-loop-p-test+else-p-word w ↦
          let l = w.word.ensures in walk-past _ _ _ _ _ _ _ c.requires.1 c.loop-p.invariant (omega arith) ∙ sym c.is_empty.ensures
      | else-loop-p-test w ↦ walk-root _ _ _ _ _ _ _ c.requires.1 c.loop-p.invariant w.loop-p-test.false ∙ sym c.is_empty.ensures
    ]
