use Rattle.std.specs.Prelude.{Err}
use Prim.Native.Nat.{ℕ, ◌<◌, ◌+◌, ◌-◌, ◌^◌}
use mathlib.Core.Path.{◌≡◌, ap, ◌∙◌}
use native.Mathlib.Omega.{arith}
use Rattle.ber_tags.specs.Tag.{stop}
use Rattle.ber_tags.proofs.Laws.{long-over, long-cut, long-last, long-more}
use Rattle.ber_integers.proofs.Radix.{digit-more, power_le}
use Rattle.ber_tags.proofs.long_number.Goals as goal

-- at most three octets were passed before this one
room : (at : ℕ) {p acc : ℕ} → p < at + 5 → acc < 128 ^ (p - (at + 1)) → acc < 128 ^ 3
room at {p} h a = power_le 128 {n = p - (at + 1)} {k = 3} (omega arith) (omega arith) a

pub returns-then-end-p-clause-value : goal.returns-then-end-p-clause-value
returns-then-end-p-clause-value c =
    let e = c.stop_of-end.ensures.value in
    ap Err c.cut_of-place.ensures ∙ long-cut _ _ _ _ _ _ (omega arith) (rw e at c.if-end-p.true) ∙ c.loop-p.invariant.rest

pub overflow_mul-result : goal.overflow_mul-result
overflow_mul-result c = let h = room _ c.loop-p-test.true c.loop-p.invariant.below in omega arith

pub overflow_add-result : goal.overflow_add-result
overflow_add-result c = let h = room _ c.loop-p-test.true c.loop-p.invariant.below in omega arith

pub returns-then-b-lt128-clause-value : goal.returns-then-b-lt128-clause-value
returns-then-b-lt128-clause-value c =
    let e = c.stop_of-end.ensures.value in
    let h : c.loop-p.p < stop _ _ = rw e at c.if-end-p.false in
    rw c.from.ensures (long-last _ _ _ _ _ _ (omega arith) h c.if-b-lt128.true) ∙ c.loop-p.invariant.rest

pub overflow_mul-acc : goal.overflow_mul-acc
overflow_mul-acc c = let h = room _ c.loop-p-test.true c.loop-p.invariant.below in omega arith

pub overflow_add-acc : goal.overflow_add-acc
overflow_add-acc c = let h = room _ c.loop-p-test.true c.loop-p.invariant.below in omega arith

pub loop-p-preserved : goal.loop-p-preserved
loop-p-preserved c =
    let l = c.loop-p in
    let e = c.stop_of-end.ensures.value in
    let t : 0 < c.args.at + 5 - l.p = omega arith in
    let i : l.p + 1 - (c.args.at + 1) ≡ l.p - (c.args.at + 1) + 1 = omega arith in
    let j : c.args.at + 5 - (l.p + 1) ≡ c.args.at + 5 - l.p - 1 = omega arith in
    record {
      below = rw i (digit-more 128 (l.p - (c.args.at + 1)) l.invariant.below (omega arith));
      rest = rw (j, c.from-in-loop-p.ensures) (long-more _ _ _ _ _ _ t (rw e at c.if-end-p.false) c.if-b-lt128.false) ∙ l.invariant.rest;
    }

pub returns-clause-value : goal.returns-clause-value
returns-clause-value c = long-over _ _ _ _ _ _ (omega arith) ∙ c.loop-p.invariant.rest
