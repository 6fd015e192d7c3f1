use native.Mathlib.Omega.{arith}
use mathlib.Core.Path.{refl, ◌∙◌}
use Rattle.glow_writer.proofs.Placing.{inside-none, inside-put, item-put, rows_end, rows-parent, rows-kind, rows_step}
use Rattle.glow_writer.proofs.write.+put_inside_put_item_put_items.Goals as goal

pub put_inside-returns-then-size-eq0 : goal.put_inside-returns-then-size-eq0
put_inside-returns-then-size-eq0 t c =
    record { inside_by = λ k above. inside-none _ _ _ k above _ _ _ _ _ _ c.if-size-eq0.true; start_le_next = (omega arith, c.requires.0) }

pub put_inside-put_outer-a-requires : goal.put_inside-put_outer-a-requires
put_inside-put_outer-a-requires t c = c.requires.1.1.1.1

pub put_inside-put_items-requires : goal.put_inside-put_items-requires
put_inside-put_items-requires t c = let q = c.requires in (omega arith, (q.0, (q.1.0, (q.1.1.0, q.1.1.1.0))))

pub put_inside-returns : goal.put_inside-returns
put_inside-returns t c =
    record {
      inside_by = λ k above. inside-put _ _ _ k above _ _ _ _ _ _ _ _ _ _ c.requires.1.1.1.1 c.if-size-eq0.false c.put_outer-a.ensures
          (c.put_items.ensures.items_by k above);
      start_le_next = c.put_items.ensures.start_le_next;
    }

pub put_item-bounds-kept-i : goal.put_item-bounds-kept-i
put_item-bounds-kept-i t c = let q = c.requires in omega arith

pub put_item-overflow_add-me : goal.put_item-overflow_add-me
put_item-overflow_add-me t c = let q = c.requires in let z = c.ranges.count.fits in let w = c.word-me.ensures in omega arith

pub put_item-put_outer-a-requires : goal.put_item-put_outer-a-requires
put_item-put_outer-a-requires t c = omega arith

pub put_item-put_entry-b-requires : goal.put_item-put_entry-b-requires
put_item-put_entry-b-requires t c = let q = c.requires in omega arith

pub put_item-overflow_add-i : goal.put_item-overflow_add-i
put_item-overflow_add-i t c = let q = c.requires in let z = c.ranges.count.fits in omega arith

pub put_item-put_inside-c-requires : goal.put_item-put_inside-c-requires
put_item-put_inside-c-requires t c =
    let q = c.requires in (omega arith, (omega arith, (q.1.0, (q.1.1.0, (q.1.1.1, omega arith)))))

pub put_item-put_inside-requires : goal.put_item-put_inside-requires
put_item-put_inside-requires t c =
    let q = c.requires in
    let m = c.put_inside-c.ensures.start_le_next in (omega arith, (m.1, (q.1.0, (q.1.1.0, (q.1.1.1, omega arith)))))

pub put_item-returns : goal.put_item-returns
put_item-returns t c =
    let q = c.requires in
    let m = c.put_inside-c.ensures.start_le_next in
    let r = c.put_inside.ensures.start_le_next in
    let w = c.word-me.ensures in
    record {
      item_by = item-put _ _ _ _ _ _ c.word_at-kind.ensures (q.1.1.1 _ q.0) _ _ _ _ (refl, (refl, (refl, refl))) _ _ (omega arith) (omega arith)
          _ _ _ _ c.wrapped_size.ensures c.wrapped_size-2.ensures c.plus.ensures c.plus-held.ensures _ c.tag_of.ensures _ _ _ _
          c.put_outer-a.ensures _ _ c.put_entry-b.ensures _ _ c.put_inside-c.ensures.inside_by _ _ c.put_inside.ensures.inside_by;
      i_lt_next = (omega arith, r.1);
    }

pub put_items-loop-i-init : goal.put_items-loop-i-init
put_items-loop-i-init t c = (omega arith, (c.requires.0, (refl, λ r o' h. h)))

pub put_items-returns-then-word_at-parent : goal.put_items-returns-then-word_at-parent
put_items-returns-then-word_at-parent t c =
    let h = c.loop-i.invariant in
    record {
      items_by = h.1.1.1 _ _ (λ k above. rows-parent _ _ _ c.requires.1.0 _ _ k above _ c.loop-i-test.true _ c.word_at.ensures _ _
          c.if-word_at-parent.true);
      start_le_next = (h.0, h.1.0);
    }

pub put_items-returns-then-not-stands_in : goal.put_items-returns-then-not-stands_in
put_items-returns-then-not-stands_in t c =
    let h = c.loop-i.invariant in
    record {
      items_by = h.1.1.1 _ _ (λ k above. rows-kind _ _ _ c.requires.1.0 _ _ k above _ c.loop-i-test.true _ c.word_at.ensures _
          c.word_at-in-loop-i.ensures _ _ c.if-word_at-parent.false (c.stands_in.ensures ∙ c.if-not-stands_in.true));
      start_le_next = (h.0, h.1.0);
    }

pub put_items-put_item-r-requires : goal.put_items-put_item-r-requires
put_items-put_item-r-requires t c =
    let q = c.requires in let h = c.loop-i.invariant in (omega arith, (c.loop-i-test.true, (q.1.0, (q.1.1.0, q.1.1.1))))

pub put_items-loop-i-smaller : goal.put_items-loop-i-smaller
put_items-loop-i-smaller t c = let m = c.put_item-r.ensures.i_lt_next in omega arith

pub put_items-loop-i-preserved : goal.put_items-loop-i-preserved
put_items-loop-i-preserved t c =
    let h = c.loop-i.invariant in
    let m = c.put_item-r.ensures.i_lt_next in (
      omega arith,
      (
        m.1,
        (
          c.put_item-r.auto.out ∙ h.1.1.0,
          λ r o' g. h.1.1.1 r o' (λ k above. rows_step _ _ _ c.requires.1.0 _ _ k above _ c.loop-i-test.true _ c.word_at.ensures _
              c.word_at-in-loop-i.ensures _ _ _ _ c.if-word_at-parent.false (c.stands_in.ensures ∙ c.if-not-stands_in.false)
              (c.put_item-r.ensures.item_by k above) m.0 r o' (g k above)),
        ),
      ),
    )

pub put_items-returns : goal.put_items-returns
put_items-returns t c =
    let h = c.loop-i.invariant in
    record {
      items_by = h.1.1.1 _ _ (λ k above. rows_end _ _ _ c.requires.1.0 _ _ k above _ _ _ c.loop-i-test.false);
      start_le_next = (h.0, h.1.0);
    }
