use Prim.Native.Nat.{ℕ, ◌≤◌, ◌<◌, ◌+◌, ◌%◌}
use mathlib.Core.Path.{◌≡◌, sym, ap, ◌∙◌}
use native.Mathlib.Omega.{arith}
use mathlib.Core.List.{[], ◌∷◌, ◌++◌}
use lib.ListN.{length, take, drop, set, length-set}
use Rattle.ber_integers.proofs.Laws.{put-out, put_in, fill_step}
use Rattle.ber_tags.specs.Write.{septets}
use Rattle.ber_tag_writer.proofs.Laws.{septets-start, septets-step, septets-done, first-there, first-take, first-drop}
use Rattle.ber_tags.proofs.Septets.{length-septets}
use Rattle.ber_tag_writer.proofs.write_septets.Goals as goal

pub returns-then-out-n : goal.returns-then-out-n
returns-then-out-n c = put-out _ _ _ (rw (length-septets c.args.v) (omega arith))

pub returns-then-out-n-2 : goal.returns-then-out-n-2
returns-then-out-n-2 c = put-out _ _ _ (rw (length-septets c.args.v) (omega arith))

pub loop-i-init : goal.loop-i-init
loop-i-init c =
    let h : c.args.at + c.septet_count-n.result < length c.args.out.now = omega arith in record {
      tail = c.low.result ∷ [];
      left = rw c.low.ensures.value (septets-start c.septet_count-n.result c.args.v c.septet_count-n.ensures);
      placed = first-there c.args.out.now (c.args.at + c.septet_count-n.result) c.low.result h;
    }

pub bounds-out-at-in-loop-i : goal.bounds-out-at-in-loop-i
bounds-out-at-in-loop-i c = let s = length-set c.args.out.now (c.args.at + c.septet_count-n.result) c.low.result in omega arith

pub loop-i-preserved : goal.loop-i-preserved
loop-i-preserved c =
    let l = c.loop-i in
    let o = set c.args.out.now (c.args.at + c.septet_count-n.result) c.low.result in
    let s : length o ≡ length c.args.out.now = length-set c.args.out.now (c.args.at + c.septet_count-n.result) c.low.result in
    let h : 0 < l.i = omega arith in
    let k : c.args.at + l.i ≤ length o = omega arith in record {
      tail = (128 + l.r % 128) ∷ l.invariant.tail;
      left = sym (septets-step l.i l.r l.invariant.tail h) ∙ l.invariant.left;
      placed = rw (c.low-in-loop-i.ensures.value, l.invariant.placed)
          (fill_step o c.args.at l.i (128 + l.r % 128) l.invariant.tail (drop (c.args.at + c.septet_count-n.result + 1) o) h k);
    }

pub returns : goal.returns
returns c =
    let z : c.loop-i.i ≡ 0 = omega arith in
    let m : length (septets c.args.v) ≡ c.septet_count-n.result + 1 = length-septets c.args.v
    ∙ ap (λ (i : ℕ). i + 1) (sym c.septet_count-n.ensures) in
    let t : c.loop-i.invariant.tail ≡ septets c.args.v = septets-done c.loop-i.i c.loop-i.r c.loop-i.invariant.tail z ∙ c.loop-i.invariant.left in
    let d : c.args.at + 0 ≡ c.args.at = omega arith in
    let e : c.args.at + (c.septet_count-n.result + 1) ≡ c.args.at + c.septet_count-n.result + 1 = omega arith in
    let f : c.args.at ≤ c.args.at + c.septet_count-n.result = omega arith in
    let o : c.loop-i.out ≡ take c.args.at c.args.out.now ++ (septets c.args.v ++ drop (c.args.at + c.septet_count-n.result + 1) c.args.out.now) =
    c.loop-i.invariant.placed ∙ rw (z, t, d, first-take c.args.out.now (c.args.at + c.septet_count-n.result) c.low.result c.args.at f, first-drop c.args.out.now (c.args.at + c.septet_count-n.result) c.low.result) in
    put_in c.args.out.now c.args.at (septets c.args.v) (rw m (omega arith)) ∙ rw (m, e, o)
