use Prim.Native.Nat.{◌≤◌, ◌<◌, ◌+◌, ◌-◌}
use mathlib.Core.Path.{◌≡◌, ◌∙◌}
use native.Mathlib.Omega.{arith}
use mathlib.Core.List.{◌++◌}
use lib.ListN.{length, take, drop, get_or}
use Rattle.ber_integers.proofs.Laws.{put-out, put_in, fill_start, fill_step, length_part}
use Rattle.ber_value_writer.proofs.Laws.{part_out, part_in, part-back, part-last}
use Rattle.ber_value_writer.proofs.write_part.Goals as goal

pub returns-in_err-held : goal.returns-in_err-held
returns-in_err-held c = rw c.from_residual.ensures (part_out _ _ _ _ _ c.in_err-held.ensures)

pub returns-in_err-held-2 : goal.returns-in_err-held-2
returns-in_err-held-2 c =
    let w = c.in_ok-held.ensures.0 in
    rw c.from_residual-in_err-held-2.ensures
    (part_in _ _ _ _ _ w ∙ put-out _ _ _ (rw (length_part c.args.src.now c.args.start c.args.len w) c.in_err-held-2.ensures))

pub loop-i-init : goal.loop-i-init
loop-i-init c =
    let w : c.args.start + c.args.len ≤ length c.args.src.now = c.in_ok-held.ensures.0 in
    rw (part-last c.args.src.now c.args.start c.args.len w) (fill_start c.args.out.now c.args.at c.args.len)

pub loop-i-preserved : goal.loop-i-preserved
loop-i-preserved c =
    let w : c.args.start + c.args.len ≤ length c.args.src.now = c.in_ok-held.ensures.0 in
    let o : c.args.at + c.args.len ≤ length c.args.out.now = c.in_ok-held-2.ensures.0 in
    let h : 0 < c.loop-i.i = c.loop-i-test.true in
    let k : c.args.at + c.loop-i.i ≤ length c.args.out.now = omega arith in
    let v = get_or c.args.src.now (c.args.start + (c.loop-i.i - 1)) 0 in
    let p = take c.args.len (drop c.args.start c.args.src.now) in
    rw (c.loop-i.invariant, part-back c.args.src.now c.args.start c.args.len c.loop-i.i w h c.loop-i.auto.i)
    (fill_step c.args.out.now c.args.at c.loop-i.i v (drop c.loop-i.i p) (drop (c.args.at + c.args.len) c.args.out.now) h k)

pub returns : goal.returns
returns c =
    let w = c.in_ok-held.ensures.0 in
    let n : length (take c.args.len (drop c.args.start c.args.src.now)) ≡ c.args.len = length_part c.args.src.now c.args.start c.args.len w in
    let z : c.loop-i.i ≡ 0 = omega arith in
    let d : c.args.at + 0 ≡ c.args.at = omega arith in
    let o : c.loop-i.out ≡ take c.args.at c.args.out.now ++ (take c.args.len (drop c.args.start c.args.src.now) ++ drop (c.args.at + c.args.len) c.args.out.now) =
    c.loop-i.invariant ∙ rw (z, d) in
    part_in _ _ _ _ _ w ∙ put_in c.args.out.now c.args.at (take c.args.len (drop c.args.start c.args.src.now)) (rw n c.in_ok-held-2.ensures.0) ∙ rw (n, o)
