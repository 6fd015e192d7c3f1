use Prim.Native.Nat.{ℕ}
use mathlib.Core.Path.{◌≡◌, refl, sym, ap, ◌∙◌}
use native.Mathlib.Omega.{arith}
use Rattle.std.proofs.Common.{rules}
use Rattle.framing_digits.specs.declared.Scanned.{Scanned}
use Rattle.framing_digits.specs.declared.Stop.TheVariants.{Input}
use Rattle.framing_digits.specs.Lines.{Whole, stops}
use Rattle.framing_digits.proofs.Laws.{scan-first, scan-end, scan-line, scan-fault, scan-high, scan-pair}
use Rattle.framing_digits.proofs.scan.Goals.{in-Some-high, in_default-high}
use Rattle.framing_digits.proofs.scan.Goals as goal

pub returns-then-b-eq10-clause-chunk_value : goal.returns-then-b-eq10-clause-chunk_value
returns-then-b-eq10-clause-chunk_value c =
    let l = c.loop-i in
    let on = scan-line c.args.block.now l.i l.begun l.chunk l.count c.loop-i-test.true l.high c.if-b-eq10.true in
    let told = ap {B = Whole} (λ (r : Scanned). record { answer = r; chunk = l.chunk }) (sym c.end_line.ensures.value) in
    scan-first _ _ c.args.line.high _ _ _ c.first_digit-high.ensures (l.invariant.4 ∙ on ∙ told)

pub returns-in_default-clause-chunk_value : goal.returns-in_default-clause-chunk_value
returns-in_default-clause-chunk_value c =
    let l = c.loop-i in
    let on = scan-fault c.args.block.now l.i l.begun l.chunk l.count c.loop-i-test.true c.if-b-eq10.false l.high c.in_default.ensures in
    let told = ap {B = Whole} (λ (r : Scanned). record { answer = r; chunk = l.chunk }) (sym c.stop_at.ensures.value) in
    scan-first _ _ c.args.line.high _ _ _ c.first_digit-high.ensures (l.invariant.4 ∙ on ∙ told)

pub loop-i-preserved : goal.loop-i-preserved
loop-i-preserved c =
    let l = c.loop-i in
    let d = c.in-Some.ensures in
    elim c.match-high.branch [
      | in-Some-high w ↦ (
        omega arith,
        omega arith,
        search rules,
        search rules,
        l.invariant.4
            ∙ scan-pair c.args.block.now l.i l.begun l.chunk l.count c.loop-i-test.true c.if-b-eq10.false c.in-Some.digit d.0 d.1 w.in-Some-high.first w.in-Some-high.is
            (w.put-count.ensures.b_value (omega arith))
            ∙ (rw (w.high-is, w.chunk-is, w.count-is) refl),
        λ h. omega arith,
      )
      | in_default-high w ↦ (
        omega arith,
        omega arith,
        search rules,
        search rules,
        l.invariant.4
            ∙ scan-high c.args.block.now l.i l.begun l.chunk l.count c.loop-i-test.true c.if-b-eq10.false c.in-Some.digit d.0 d.1 (search rules)
            ∙ (rw (w.high-is, w.chunk-is, w.count-is) refl),
        λ h. omega arith,
      )
    ]

pub returns-clause-chunk_value : goal.returns-clause-chunk_value
returns-clause-chunk_value c =
    let l = c.loop-i in
    let e : l.i ≡ c.max.result = grind (arith, c.max.ensures) in
    scan-first _ _ c.args.line.high _ _ _ c.first_digit-high.ensures
    (l.invariant.4 ∙ scan-end c.args.block.now l.i l.begun l.chunk l.count l.high c.loop-i-test.false
    ∙ ap {B = Whole} (λ (k : ℕ). record { answer = stops Input k l.high l.begun l.count; chunk = l.chunk }) e)
