use Rattle.ber_containers.proofs.Stack.{going_start, going-stuck, going_done, going-up, going-past, going-in}
use Rattle.ber_containers.proofs.Quick.{ahead_of}
use native.Mathlib.Omega.{arith}
use mathlib.Core.Path.{refl}
use Rattle.ber_containers.proofs.nests.Goals as goal

pub loop-here-init : goal.loop-here-init
loop-here-init c = going_start _ _ _ _ _ refl

pub returns-then-d-eq0 : goal.returns-then-d-eq0
returns-then-d-eq0 c =
    let z = c.shut-z.ensures c.if-z.true in
    let both = going_done _ _ _ _ _ _ _ _ c.loop-here.invariant z.0 z.1 c.if-d-eq0.true in record { through = both.0; onto_onward = both.1 }

pub overflow_sub-d : goal.overflow_sub-d
overflow_sub-d c = omega (arith, c.if-d-eq0.false)

pub offset_bounds-around-d : goal.offset_bounds-around-d
offset_bounds-around-d c = omega (arith, c.if-d-eq0.false, c.loop-here.invariant.fits)

pub bounds-around-d : goal.bounds-around-d
bounds-around-d c = omega (arith, c.if-d-eq0.false, c.loop-here.invariant.fits)

pub loop-here-smaller-then-z : goal.loop-here-smaller-then-z
loop-here-smaller-then-z c =
    let z = c.shut-z.ensures c.if-z.true in
    omega (arith, c.if-d-eq0.false, z.1)

pub loop-here-preserved-then-z : goal.loop-here-preserved-then-z
loop-here-preserved-then-z c =
    let z = c.shut-z.ensures c.if-z.true in
    going-up _ _ _ _ _ _ _ _ c.loop-here.invariant z.0 z.1 c.if-d-eq0.false

pub overflow_sub-k : goal.overflow_sub-k
overflow_sub-k c = omega (arith, c.loop-here.invariant.deep)

pub stopped-requires : goal.stopped-requires
stopped-requires c = λ n t. going-stuck _ _ _ _ _ _ _ _ c.loop-here.invariant t

pub returns-then-t : goal.returns-then-t
returns-then-t c = record { through = c.stopped.ensures.through; onto_onward = c.stopped.ensures.onto_onward }

pub overflow_sub-k-then-not-has_room : goal.overflow_sub-k-then-not-has_room
overflow_sub-k-then-not-has_room c = omega (arith, c.loop-here.invariant.deep)

pub stopped-requires-then-not-has_room : goal.stopped-requires-then-not-has_room
stopped-requires-then-not-has_room c = λ n t. going-stuck _ _ _ _ _ _ _ _ c.loop-here.invariant t

pub returns-then-not-has_room : goal.returns-then-not-has_room
returns-then-not-has_room c = record { through = c.stopped-then-not-has_room.ensures.through; onto_onward = c.stopped-then-not-has_room.ensures.onto_onward }

pub offset_bounds-around-d-then-t-eq1 : goal.offset_bounds-around-d-then-t-eq1
offset_bounds-around-d-then-t-eq1 c =
    let b = c.has_room.ensures c.if-not-has_room.false in
    omega (arith, b.1)

pub bounds-around-d-then-t-eq1 : goal.bounds-around-d-then-t-eq1
bounds-around-d-then-t-eq1 c =
    let b = c.has_room.ensures c.if-not-has_room.false in
    omega (arith, b.1)

pub overflow_add-d : goal.overflow_add-d
overflow_add-d c =
    let b = c.has_room.ensures c.if-not-has_room.false in
    omega (arith, b.1)

pub loop-here-smaller-then-t-eq1 : goal.loop-here-smaller-then-t-eq1
loop-here-smaller-then-t-eq1 c =
    let e = c.tag_at-t.ensures c.if-t.false in
    let a = ahead_of _ _ _ e in
    omega (arith, a.within, a.later)

pub loop-here-preserved-then-t-eq1 : goal.loop-here-preserved-then-t-eq1
loop-here-preserved-then-t-eq1 c =
    let b = c.has_room.ensures c.if-not-has_room.false in
    let e = c.tag_at-t.ensures c.if-t.false in
    going-in _ _ _ _ _ _ _ _ c.loop-here.invariant e c.if-t-eq1.true b.0 b.1

pub overflow_sub-k-then-s-inner : goal.overflow_sub-k-then-s-inner
overflow_sub-k-then-s-inner c = omega (arith, c.loop-here.invariant.deep)

pub stopped-requires-then-s-inner : goal.stopped-requires-then-s-inner
stopped-requires-then-s-inner c = λ n t. going-stuck _ _ _ _ _ _ _ _ c.loop-here.invariant t

pub returns-then-s-inner : goal.returns-then-s-inner
returns-then-s-inner c = record { through = c.stopped-then-s-inner.ensures.through; onto_onward = c.stopped-then-s-inner.ensures.onto_onward }

pub loop-here-smaller : goal.loop-here-smaller
loop-here-smaller c =
    let e = c.tag_at-t.ensures c.if-t.false in
    let a = ahead_of _ _ _ e in
    omega (arith, a.within, a.later, a.opens)

pub loop-here-preserved : goal.loop-here-preserved
loop-here-preserved c =
    let e = c.tag_at-t.ensures c.if-t.false in
    going-past _ _ _ _ _ _ _ _ c.loop-here.invariant e c.if-t-eq1.false c.if-s-inner.false
