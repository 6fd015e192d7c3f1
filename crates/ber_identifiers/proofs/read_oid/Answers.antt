use Rattle.ber_integers.proofs.Promises.{promised}
use Prim.Native.Nat.{◌+◌, ◌-◌}
use mathlib.Core.Path.{sym, ap, subst, ◌∙◌}
use native.Mathlib.Omega.{arith}
use Rattle.ber_identifiers.specs.Identifier.{ArcWithin}
use Rattle.ber_identifiers.proofs.Laws.{arc-short, oid-row, tally, tally-start, tally-push, tally-pass, tally-bad, tally-done, arcs-done}
use Rattle.ber_identifiers.proofs.Laws.{arcs-number, arcs-over, arcs-bad, oid-out, oid-within, oid-short}
use Rattle.ber_identifiers.proofs.read_oid.Goals as goal

pub returns-then-s-n : goal.returns-then-s-n
returns-then-s-n c = promised oid-row (oid-out _ _ _ (omega arith))

pub overflow_sub-s : goal.overflow_sub-s
overflow_sub-s c = omega arith

pub returns-then-s-n-2 : goal.returns-then-s-n-2
returns-then-s-n-2 c = promised oid-row (oid-out _ _ _ (omega arith))

pub overflow_add-end : goal.overflow_add-end
overflow_add-end c = omega arith

pub loop-p-init : goal.loop-p-init
loop-p-init c = (omega arith, (omega arith, (c.args.n, (omega arith, tally-start _))))

pub bounds-s-p : goal.bounds-s-p
bounds-s-p c = omega arith

pub overflow_add-p : goal.overflow_add-p
overflow_add-p c = omega arith

pub overflow_add-count : goal.overflow_add-count
overflow_add-count c = omega arith

pub loop-p-smaller-then-s-p-lt128 : goal.loop-p-smaller-then-s-p-lt128
loop-p-smaller-then-s-p-lt128 c = omega arith

pub loop-p-preserved-then-s-p-lt128 : goal.loop-p-preserved-then-s-p-lt128
loop-p-preserved-then-s-p-lt128 c =
    let e = arc-short c.args.s.now _ c.loop-p.p c.loop-p-test.true c.if-s-p-lt128.true (omega arith) in
    let q = arcs-number _ _ c.loop-p.p c.loop-p.invariant.1.1.0 _ _ c.loop-p-test.true c.loop-p.invariant.1.1.1.0 e (omega arith) in (
      omega arith,
      (
        omega arith,
        (
          q.0,
          (
            q.1.0,
            tally-push c.loop-p.count _ c.loop-p.over _ ∙ ap (tally c.loop-p.count c.loop-p.over) (sym q.1.1) ∙
                c.loop-p.invariant.1.1.1.1,
          ),
        ),
      ),
    )

pub overflow_add-count-in-Number : goal.overflow_add-count-in-Number
overflow_add-count-in-Number c = omega arith

pub loop-p-smaller-in-Number : goal.loop-p-smaller-in-Number
loop-p-smaller-in-Number c = let w = subst (ArcWithin _ _) c.in-Number.is c.read_number.ensures.arc_within in omega arith

pub loop-p-preserved-in-Number : goal.loop-p-preserved-in-Number
loop-p-preserved-in-Number c =
    let w = subst (ArcWithin _ _) c.in-Number.is c.read_number.ensures.arc_within in
    let e = sym c.read_number.ensures.promised.is ∙ c.in-Number.is in
    let q = arcs-number _ _ c.loop-p.p c.loop-p.invariant.1.1.0 _ _ c.loop-p-test.true c.loop-p.invariant.1.1.1.0 e
    w.0 in (
      omega arith,
      (
        omega arith,
        (
          q.0,
          (
            q.1.0,
            tally-push c.loop-p.count _ c.loop-p.over _ ∙ ap (tally c.loop-p.count c.loop-p.over) (sym q.1.1) ∙
                c.loop-p.invariant.1.1.1.1,
          ),
        ),
      ),
    )

pub loop-p-smaller : goal.loop-p-smaller
loop-p-smaller c = let w = subst (ArcWithin _ _) c.in-Range.is c.read_number.ensures.arc_within in omega arith

pub loop-p-preserved : goal.loop-p-preserved
loop-p-preserved c =
    let w = subst (ArcWithin _ _) c.in-Range.is c.read_number.ensures.arc_within in
    let e = sym c.read_number.ensures.promised.is ∙ c.in-Range.is in
    let q = arcs-over _ _ c.loop-p.p c.loop-p.invariant.1.1.0 _ c.loop-p-test.true c.loop-p.invariant.1.1.1.0 e w.0 in (
      omega arith,
      (
        omega arith,
        (
          q.0,
          (
            q.1.0,
            tally-pass c.loop-p.count c.loop-p.over _ ∙ ap (tally c.loop-p.count c.loop-p.over) (sym q.1.1) ∙
                c.loop-p.invariant.1.1.1.1,
          ),
        ),
      ),
    )

pub returns-in-Refused : goal.returns-in-Refused
returns-in-Refused c =
    promised oid-row (let e = sym c.read_number.ensures.promised.is ∙ c.in-Refused.is in
    let q = arcs-bad _ _ c.loop-p.p c.loop-p.invariant.1.1.0 c.loop-p-test.true c.loop-p.invariant.1.1.1.0 e in
    sym (tally-bad c.loop-p.count c.loop-p.over) ∙ ap (tally c.loop-p.count c.loop-p.over) (sym q) ∙ c.loop-p.invariant.1.1.1.1 ∙ oid-within _ _ _
    (omega arith))

pub returns-then-over : goal.returns-then-over
returns-then-over c =
    promised oid-row (let q = arcs-done _ _ c.loop-p.p c.loop-p.invariant.1.1.0 c.loop-p-test.false in
    sym (tally-done c.loop-p.count c.loop-p.over ∙ rw c.if-over.true) ∙ ap (tally c.loop-p.count c.loop-p.over) (sym q) ∙ c.loop-p.invariant.1.1.1.1 ∙
    oid-within _ _ _ (omega arith))

pub returns : goal.returns
returns c =
    promised oid-row (let q = arcs-done _ _ c.loop-p.p c.loop-p.invariant.1.1.0 c.loop-p-test.false in
    sym (tally-done c.loop-p.count c.loop-p.over ∙ rw c.if-over.false) ∙ ap (tally c.loop-p.count c.loop-p.over) (sym q) ∙ c.loop-p.invariant.1.1.1.1
    ∙ oid-within _ _ _ (omega arith))

pub returns-then-all_short : goal.returns-then-all_short
returns-then-all_short c =
    promised oid-row (oid-short c.args.s.now c.args.at c.args.n (c.args.at + c.args.n - c.args.at) (omega arith) (omega arith)
    (c.all_short.ensures ∙ c.if-all_short.true))
