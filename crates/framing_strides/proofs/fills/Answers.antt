use native.Mathlib.Omega.{arith}
use Rattle.framing_session.proofs.Laws.{reaches_here, reaches-on, reaches-ordinary, reaches-escape}
use Rattle.framing_strides.specs.Strides.{arriving}
use Rattle.framing_strides.proofs.Laws.{reaches-as}
use Rattle.framing_strides.proofs.fills.Goals as goal

pub loop-i-init : goal.loop-i-init
loop-i-init c =
    let a = c.args in reaches_here a.chunk.now a.from (arriving a.length a.message a.from).session
    a.store.now c.requires.0 c.requires.1

pub loop-i-2-init : goal.loop-i-2-init
loop-i-2-init c = record {
  come = c.loop-i.invariant;
  inside = omega (arith, c.min-most.ensures);
  room = omega (arith, c.min-most.ensures, c.loop-i.invariant.legal.frame);
}

pub loop-i-2-preserved-then-b-lt248 : goal.loop-i-2-preserved-then-b-lt248
loop-i-2-preserved-then-b-lt248 c =
    let l = c.loop-i-2 in
    let a = c.args in
    let v = l.invariant in
    let before = c.loop-i-2-test.true in record {
      come = reaches-on v.come (reaches-ordinary a.chunk.now l.i l.n a.message l.store v.come.legal (omega (arith, v.inside)) (omega (arith, v.room))
          c.if-b-lt248.true);
      inside = v.inside;
      room = omega (arith, v.room);
    }

pub returns-then-b : goal.returns-then-b
returns-then-b c = reaches-as c.arrives-then-b.ensures c.loop-i-2.invariant.come

pub returns-then-chunk-next : goal.returns-then-chunk-next
returns-then-chunk-next c = reaches-as c.arrives-then-chunk-next.ensures c.loop-i-2.invariant.come

pub returns-then-e-lt216 : goal.returns-then-e-lt216
returns-then-e-lt216 c = reaches-as c.arrives-then-e-lt216.ensures c.loop-i-2.invariant.come

pub returns-then-e-gt223 : goal.returns-then-e-gt223
returns-then-e-gt223 c = reaches-as c.arrives-then-e-gt223.ensures c.loop-i-2.invariant.come

pub loop-i-2-preserved : goal.loop-i-2-preserved
loop-i-2-preserved c =
    let l = c.loop-i-2 in
    let a = c.args in
    let v = l.invariant in
    let before = c.loop-i-2-test.true in record {
      come = reaches-on v.come (reaches-escape a.chunk.now l.i l.n a.message l.store v.come.legal c.if-chunk-next.false (omega (arith, v.room))
          c.if-b.false c.if-e-lt216.false c.if-e-gt223.false);
      inside = v.inside;
      room = omega (arith, v.room);
    }
