use Rattle.glow_leaves.proofs.Laws.{tally, tally-start, tally-next, tally-pass, tally-bad, done-wrong, done_none, done-long, done-path}
use Rattle.glow_grammar.specs.declared.Leaf.TheVariants.{Kept}
use Rattle.glow_rows.specs.declared.Cell.{Cell}
use Rattle.ber_identifiers.proofs.Laws.{arcs-done, arcs-number, arcs-over, arcs-bad}
use Rattle.ber_identifiers.specs.Identifier.{ArcWithin}
use mathlib.Core.Path.{sym, ap, subst, ◌∙◌}
use native.Mathlib.Omega.{arith}
use Rattle.glow_leaves.proofs.path_leaf.Goals as goal

pub overflow_add-end : goal.overflow_add-end
overflow_add-end c = omega arith

pub loop-p-init : goal.loop-p-init
loop-p-init c = (omega arith, (omega arith, (c.args.len, (omega arith, tally-start _ _ _ _))))

pub overflow_add-count : goal.overflow_add-count
overflow_add-count c = omega arith

pub loop-p-smaller-in-Number : goal.loop-p-smaller-in-Number
loop-p-smaller-in-Number c = let w = subst (ArcWithin _ _) c.in-Number.is c.read_number.ensures.arc_within in omega arith

pub loop-p-preserved-in-Number : goal.loop-p-preserved-in-Number
loop-p-preserved-in-Number c =
    let a = c.args in
    let l = c.loop-p in
    let t = tally a.at a.start a.len l.count l.wrong in
    let w = subst (ArcWithin _ _) c.in-Number.is c.read_number.ensures.arc_within in
    let e = sym c.read_number.ensures.promised.is ∙ c.in-Number.is in
    let b = c.loop-p-test.true in
    let q = arcs-number _ _ l.p l.invariant.1.1.0 _ _ b l.invariant.1.1.1.0 e w.0 in
    let n = tally-next _ _ _ l.count _ l.wrong _ c.spoiled-wrong.ensures ∙ ap t (sym q.1.1) ∙ l.invariant.1.1.1.1 in
    (omega arith, (omega arith, (q.0, (q.1.0, n))))

pub loop-p-smaller : goal.loop-p-smaller
loop-p-smaller c = let w = subst (ArcWithin _ _) c.in-Range.is c.read_number.ensures.arc_within in omega arith

pub loop-p-preserved : goal.loop-p-preserved
loop-p-preserved c =
    let a = c.args in
    let l = c.loop-p in
    let t = tally a.at a.start a.len l.count l.wrong in
    let w = subst (ArcWithin _ _) c.in-Range.is c.read_number.ensures.arc_within in
    let e = sym c.read_number.ensures.promised.is ∙ c.in-Range.is in
    let b = c.loop-p-test.true in
    let q = arcs-over _ _ l.p l.invariant.1.1.0 _ b l.invariant.1.1.1.0 e w.0 in
    let n = tally-pass _ _ _ l.count l.wrong _ ∙ ap t (sym q.1.1) ∙ l.invariant.1.1.1.1 in
    (omega arith, (omega arith, (q.0, (q.1.0, n))))

pub returns-in-Refused : goal.returns-in-Refused
returns-in-Refused c =
    let a = c.args in
    let l = c.loop-p in
    let t = tally a.at a.start a.len l.count l.wrong in
    let e = sym c.read_number.ensures.promised.is ∙ c.in-Refused.is in
    let b = c.loop-p-test.true in
    let q = arcs-bad _ _ l.p l.invariant.1.1.0 b l.invariant.1.1.1.0 e in
    sym l.invariant.1.1.1.1 ∙ ap t q ∙ tally-bad _ _ _ l.count l.wrong

pub returns-then-wrong : goal.returns-then-wrong
returns-then-wrong c =
    let a = c.args in
    let l = c.loop-p in
    let t = tally a.at a.start a.len l.count l.wrong in
    let q = arcs-done _ _ l.p l.invariant.1.1.0 c.loop-p-test.false in
    let n = done-wrong a.at a.start a.len l.count l.wrong c.if-wrong.true in
    sym l.invariant.1.1.1.1 ∙ ap t q ∙ n

pub returns-then-count-eq0 : goal.returns-then-count-eq0
returns-then-count-eq0 c =
    let a = c.args in
    let l = c.loop-p in
    let t = tally a.at a.start a.len l.count l.wrong in
    let q = arcs-done _ _ l.p l.invariant.1.1.0 c.loop-p-test.false in
    let n = done_none a.at a.start a.len l.count l.wrong c.if-wrong.false c.if-count-eq0.true in
    sym l.invariant.1.1.1.1 ∙ ap t q ∙ n

pub returns-then-count-gt16 : goal.returns-then-count-gt16
returns-then-count-gt16 c =
    let a = c.args in
    let l = c.loop-p in
    let t = tally a.at a.start a.len l.count l.wrong in
    let q = arcs-done _ _ l.p l.invariant.1.1.0 c.loop-p-test.false in
    let n = done-long a.at a.start a.len l.count l.wrong c.if-wrong.false (omega arith) in
    sym l.invariant.1.1.1.1 ∙ ap t q ∙ n

pub returns : goal.returns
returns c =
    let a = c.args in
    let l = c.loop-p in
    let t = tally a.at a.start a.len l.count l.wrong in
    let q = arcs-done _ _ l.p l.invariant.1.1.0 c.loop-p-test.false in
    let r = c.if-wrong.false in
    let n = done-path a.at a.start a.len l.count l.wrong r c.if-count-eq0.false (omega arith) in
    sym l.invariant.1.1.1.1 ∙ ap t q ∙ n ∙ ap (λ (v : Cell). Kept v l.count) c.numbers_cell.ensures
