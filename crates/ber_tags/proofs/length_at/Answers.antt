use Rattle.std.specs.Prelude.{Option, Some, None, Err}
use Prim.Native.Nat.{ℕ, ◌+◌, ◌-◌}
use mathlib.Core.Path.{◌≡◌, sym, ap, ◌∙◌}
use native.Mathlib.Omega.{arith}
use lib.ListN.{take, drop, get_or}
use Rattle.ber_integers.specs.Digits.{natural}
use Rattle.ber_integers.specs.Integer.{unsigned_at}
use Rattle.ber_integers.proofs.Laws.{unsigned_is}
use Rattle.ber_tags.specs.Tag.{sized}
use Rattle.ber_tags.proofs.Laws.{length_cut, length-short, length-80, length-80-primitive, length_over, length-cut-long, length-long}
use Rattle.ber_tags.proofs.length_at.Goals.{Else-end-from}
use Rattle.ber_tags.proofs.length_at.Goals as goal

same : {x y : ℕ} → Some x ≡ Some y → x ≡ y
same e = cc

apart : {x : ℕ} → None ≡ Some x → ⊥
apart e = let z : ◌≡◌ {A = ℕ} 0 1 = cc in omega arith

-- what is read of a long length
read : (c : Else-end-from) {r : Option ℕ} → r ≡ unsigned_at
    c.args.s.now
    (c.args.p + 1) c.from-n.result
    → r ≡ Some (natural (take ((get_or c.args.s.now c.args.p 0) - 128)
    (drop (c.args.p + 1)
    c.args.s.now)))
read c e =
    e ∙ rw c.from-n.ensures (sym (unsigned_is c.args.s.now
    (c.args.p + 1) ((get_or c.args.s.now c.args.p 0) - 128) (omega arith) (omega arith)))

pub returns-then-end-p : goal.returns-then-end-p
returns-then-end-p c = ap Err c.cut_of-place.ensures ∙ length_cut _ _ _ _ _ (rw c.stop_of-end.ensures.value at c.if-end-p.true)

pub returns-then-b-lt128 : goal.returns-then-b-lt128
returns-then-b-lt128 c =
    rw c.from.ensures at c.fitted.ensures
    ∙ length-short _ _ _ _ _ (omega arith) c.if-b-lt128.true

pub returns-then-constructed : goal.returns-then-constructed
returns-then-constructed c = length-80 _ _ _ _ _ (omega arith) c.if-b.true c.if-constructed.true

pub returns-then-b : goal.returns-then-b
returns-then-b c = length-80-primitive _ _ _ _ _ (omega arith) c.if-b.true c.if-constructed.false

pub returns-then-b-gt132 : goal.returns-then-b-gt132
returns-then-b-gt132 c = length_over _ _ _ _ _ (omega arith) (omega arith)

pub returns-then-end-from : goal.returns-then-end-from
returns-then-end-from c =
    let n = c.from-n.ensures in
    let e = c.stop_of-end.ensures.value in
    ap Err c.cut_of-place.ensures
    ∙ length-cut-long _ _ _ _ _ (omega arith) (omega (arith, c.if-b.false)) (omega arith) (omega arith)

pub returns-in-Some : goal.returns-in-Some
returns-in-Some c =
    let n = c.from-n.ensures in
    let e = c.stop_of-end.ensures.value in
    let u = read (goal.at.returns-in-Some c).Else-end-from c.read_unsigned.ensures.is in
    let v : c.in-Some.v
    ≡ natural (take ((get_or c.args.s.now c.args.p 0) - 128) (drop (c.args.p + 1) c.args.s.now)) = same (sym c.in-Some.is ∙ u) in
    rw n at c.fitted-in-Some.ensures
    ∙ ap (λ (x : ℕ). sized c.args.at c.args.bound x (c.args.p + 1 + ((get_or c.args.s.now c.args.p 0) - 128))) v
    ∙ length-long _ _ _ _ _ (omega arith) (omega (arith, c.if-b.false)) (omega arith) (omega arith)

pub returns-in-None : goal.returns-in-None
returns-in-None c = absurd (apart (sym c.in-None.is ∙ read (goal.at.returns-in-None c).Else-end-from c.read_unsigned.ensures.is))
