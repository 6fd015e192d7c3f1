use borrow.Author.Rules.{rules}
use Rattle.sheet_stream.proofs.Steps.{sound-start, goes-start, goes-as, goes-byte, goes-refused, goes_end}
use Rattle.sheet_stream.proofs.Lines.{number, bytes-over, bytes-first, bytes_pair, bytes-end}
use native.Mathlib.Omega.{arith}
use Prim.Native.Nat.{ℕ, ◌<◌}
use lib.ListN.{drop}
use mathlib.Core.Path.{◌≡◌, refl, ap, ◌∙◌}
use Rattle.std.specs.Prelude.{None}
use Rattle.sheet_stream.specs.Steps.{bytes_from}
use Rattle.sheet_stream.proofs.take_text.Goals as goal

pub loop-b-init : goal.loop-b-init
loop-b-init c = (tt, (refl, (sound-start _ _ c.start.ensures (search rules), (refl, goes-start _ _ _ c.start.ensures))))

pub loop-b-preserved-in_default : goal.loop-b-preserved-in_default
loop-b-preserved-in_default c =
    let i = c.loop-b.invariant in
    (i.0, (i.1.0, (i.1.1.0, (i.1.1.1.0, goes-as i.1.1.1.1 (bytes-over c.args.text.now c.loop-b.b-index (number c.loop-b.first) _ (omega arith) c.in_default.ensures refl)))))

pub loop-b-preserved-in_default-first : goal.loop-b-preserved-in_default-first
loop-b-preserved-in_default-first c =
    let i = c.loop-b.invariant in
    let d = c.in-Some.ensures in
    let n : c.loop-b.first ≡ None = search rules in
    let e = bytes-first c.args.text.now c.loop-b.b-index (number c.loop-b.first) _ (omega arith) d.0 (λ q. omega (arith, d.1)) (ap number n) in
    (d.1, (i.1.0, (i.1.1.0, (i.1.1.1.0, goes-as i.1.1.1.1 e))))

pub returns-then-tally-ne0 : goal.returns-then-tally-ne0
returns-then-tally-ne0 c =
    let i = c.loop-b.invariant in
    let d = c.in-Some.ensures in
    let n = ap number c.in-Some-first.is in
    let h : c.in-Some-first.high < 16 = search rules in
    let e = ap (λ (k : ℕ). bytes_from k (drop c.loop-b.b-index c.args.text.now)) n
    ∙ bytes_pair c.args.text.now c.loop-b.b-index c.in-Some-first.high _ (omega arith) d.0 (λ q. omega (arith, d.1)) (λ q. omega (arith, h)) in
    let both = goes-refused (goes-byte (goes-as i.1.1.1.1 e) c.take_byte-tally.ensures) c.if-tally-ne0.true in
    record { text_value = both.0; text_value_2 = both.1 }

pub loop-b-preserved : goal.loop-b-preserved
loop-b-preserved c =
    let i = c.loop-b.invariant in
    let d = c.in-Some.ensures in
    let n = ap number c.in-Some-first.is in
    let h : c.in-Some-first.high < 16 = search rules in
    let e = ap (λ (k : ℕ). bytes_from k (drop c.loop-b.b-index c.args.text.now)) n
    ∙ bytes_pair c.args.text.now c.loop-b.b-index c.in-Some-first.high _ (omega arith) d.0 (λ q. omega (arith, d.1)) (λ q. omega (arith, h)) in (
      tt,
      (omega arith, (c.take_byte-tally.ensures.sound, (c.if-tally-ne0.false, goes-byte (goes-as i.1.1.1.1 e) c.take_byte-tally.ensures))),
    )

pub returns : goal.returns
returns c =
    let i = c.loop-b.invariant in
    let both = goes_end (goes-as i.1.1.1.1 (bytes-end c.args.text.now c.loop-b.b-index _ (omega arith))) i.1.1.1.0 in record { text_value = both.0; text_value_2 = both.1 }
