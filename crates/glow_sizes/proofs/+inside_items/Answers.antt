use native.Mathlib.Omega.{arith}
use mathlib.Core.Path.{refl, ◌∙◌}
use Rattle.glow_sizes.proofs.Notes.{note-start, note-on, notes-no, notes-empty}
use Rattle.glow_sizes.proofs.Trees.{inside-end, inside-other, turn-full, turn-links, turn-keeps, turn-linked, turn-over, turn_on}
use Rattle.glow_sizes.proofs.Trees.{passed, inside-small, turn-first, turn_end, turn-none, turn-shallow, turn-entry, turn-kids}
use Rattle.glow_sizes.proofs.+inside_items.Goals as goal

pub inside-returns-then-count-start : goal.inside-returns-then-count-start
inside-returns-then-count-start t c =
    let q = inside-end _ _ _ _ _ _ _ _ _ c.requires.0 c.requires.1 _ c.empty.ensures c.if-count-start.true in
    record { gives = q.0; fact = q.1.0; next_le_count = q.1.1; notes = notes-empty _ _ _ _ _ _ _ c.empty.ensures }

pub inside-returns-then-word_at-parent : goal.inside-returns-then-word_at-parent
inside-returns-then-word_at-parent t c =
    let q = inside-other _ _ _ _ _ _ _ _ _ c.requires.0 c.requires.1 _ c.empty-then-word_at-parent.ensures
    c.if-count-start.false _ c.word_at.ensures c.if-word_at-parent.true in
    record { gives = q.0; fact = q.1.0; next_le_count = q.1.1; notes = notes-empty _ _ _ _ _ _ _ c.empty-then-word_at-parent.ensures }

pub inside-items-requires : goal.inside-items-requires
inside-items-requires t c =
    (omega arith, c.requires)

pub items-loop-i-init : goal.items-loop-i-init
items-loop-i-init t c =
    (turn-first _ _ _ _ _ _ _ _ _ c.requires.0, (refl, note-start _ _ _ _ _ _))

pub items-returns-then-not-is_next : goal.items-returns-then-not-is_next
items-returns-then-not-is_next t c =
    let q = turn-none _ _ _ _ _ _ _ _ _ _ _ c.loop-i.invariant.0 c.requires.1 c.loop-i-test.true
    (c.is_next.ensures ∙ c.if-not-is_next.true) in
    record { gives = q.0; fact = q.1.0; next_le_count = q.1.1; notes = λ h. c.loop-i.invariant.1.1 }

pub items-returns-then-k-lt-FOR_ENTRY : goal.items-returns-then-k-lt-FOR_ENTRY
items-returns-then-k-lt-FOR_ENTRY t c =
    let q = turn-shallow _ _ _ _ _ _ _ _ _ _ _ c.loop-i.invariant.0 c.requires.1 c.loop-i-test.true
    (c.is_next.ensures ∙ c.if-not-is_next.false) c.refused.ensures c.if-k-lt-FOR_ENTRY.true in
    record { gives = q.0; fact = q.1.0; next_le_count = q.1.1; notes = notes-no _ _ _ _ _ _ _ _ c.refused.ensures }

pub items-returns-then-e-gt-MESSAGE_LIMIT : goal.items-returns-then-e-gt-MESSAGE_LIMIT
items-returns-then-e-gt-MESSAGE_LIMIT t c =
    let q = turn-entry _ _ _ _ _ _ _ _ _ _ _ c.loop-i.invariant.0 c.requires.1 c.loop-i-test.true
    (c.is_next.ensures ∙ c.if-not-is_next.false) _ c.entry_size-e.ensures c.refused-then-e-gt-MESSAGE_LIMIT.ensures c.if-e-gt-MESSAGE_LIMIT.true in
    record { gives = q.0; fact = q.1.0; next_le_count = q.1.1; notes = notes-no _ _ _ _ _ _ _ _ c.refused-then-e-gt-MESSAGE_LIMIT.ensures }

pub items-inside-kids-requires : goal.items-inside-kids-requires
items-inside-kids-requires t c =
    let p = c.requires in let h = c.loop-i-test.true in let o = c.loop-i.invariant.0.onward in
    (omega (arith, p.0, h, o), (omega (arith, h), p.1))

pub items-returns-then-kids-gt-MESSAGE_LIMIT : goal.items-returns-then-kids-gt-MESSAGE_LIMIT
items-returns-then-kids-gt-MESSAGE_LIMIT t c =
    let q = turn-kids _ _ _ _ _ _ _ _ _ _ _ c.loop-i.invariant.0 c.requires.1 c.loop-i-test.true
    (c.is_next.ensures ∙ c.if-not-is_next.false) _ c.entry_size-e.ensures
    c.if-e-gt-MESSAGE_LIMIT.false _ _ _ _ c.word_at-kind.ensures c.word-me.ensures refl c.inside_of-left.ensures _ c.inside-kids.ensures.gives
    c.refused-then-kids-gt-MESSAGE_LIMIT.ensures c.if-kids-gt-MESSAGE_LIMIT.true in
    record { gives = q.0; fact = q.1.0; next_le_count = q.1.1; notes = notes-no _ _ _ _ _ _ _ _ c.refused-then-kids-gt-MESSAGE_LIMIT.ensures }

pub items-returns-then-not-may_hold : goal.items-returns-then-not-may_hold
items-returns-then-not-may_hold t c =
    let q = turn-full _ _ _ _ _ _ _ _ _ _ _ c.loop-i.invariant.0 c.requires.1 c.loop-i-test.true
    (c.is_next.ensures ∙ c.if-not-is_next.false) _ c.entry_size-e.ensures
    c.if-e-gt-MESSAGE_LIMIT.false _ _ _ _ c.word_at-kind.ensures c.word-me.ensures refl c.inside_of-left.ensures _ c.inside-kids.ensures.gives
    c.if-kids-gt-MESSAGE_LIMIT.false
    c.refused-then-not-may_hold.ensures (c.may_hold.ensures ∙ c.if-not-may_hold.true) in
    record { gives = q.0; fact = q.1.0; next_le_count = q.1.1; notes = notes-no _ _ _ _ _ _ _ _ c.refused-then-not-may_hold.ensures }

pub items-inside-links-requires : goal.items-inside-links-requires
items-inside-links-requires t c =
    let p = c.requires in let h = c.loop-i-test.true in let o = c.loop-i.invariant.0.onward in
    let a = passed c.inside-kids.ensures.fact c.if-kids-gt-MESSAGE_LIMIT.false in
    (omega (arith, p.0, h, o, a), (c.inside-kids.ensures.next_le_count, p.1))

pub items-returns-then-links-gt-MESSAGE_LIMIT : goal.items-returns-then-links-gt-MESSAGE_LIMIT
items-returns-then-links-gt-MESSAGE_LIMIT t c =
    let q = turn-links _ _ _ _ _ _ _ _ _ _ _ c.loop-i.invariant.0 c.requires.1 c.loop-i-test.true
    (c.is_next.ensures ∙ c.if-not-is_next.false) _ c.entry_size-e.ensures
    c.if-e-gt-MESSAGE_LIMIT.false _ _ _ _ c.word_at-kind.ensures c.word-me.ensures refl c.inside_of-left.ensures _ c.inside-kids.ensures.gives
    c.if-kids-gt-MESSAGE_LIMIT.false
    (c.may_hold.ensures ∙ c.if-not-may_hold.false) _ c.inside-links.ensures.gives
    c.refused-then-links-gt-MESSAGE_LIMIT.ensures c.if-links-gt-MESSAGE_LIMIT.true in
    record { gives = q.0; fact = q.1.0; next_le_count = q.1.1; notes = notes-no _ _ _ _ _ _ _ _ c.refused-then-links-gt-MESSAGE_LIMIT.ensures }

pub items-returns-then-not-may_hold-2 : goal.items-returns-then-not-may_hold-2
items-returns-then-not-may_hold-2 t c =
    let q = turn-linked _ _ _ _ _ _ _ _ _ _ _ c.loop-i.invariant.0 c.requires.1 c.loop-i-test.true
    (c.is_next.ensures ∙ c.if-not-is_next.false) _ c.entry_size-e.ensures
    c.if-e-gt-MESSAGE_LIMIT.false _ _ _ _ c.word_at-kind.ensures c.word-me.ensures refl c.inside_of-left.ensures _ c.inside-kids.ensures.gives
    c.if-kids-gt-MESSAGE_LIMIT.false
    (c.may_hold.ensures ∙ c.if-not-may_hold.false) _ c.inside-links.ensures.gives c.if-links-gt-MESSAGE_LIMIT.false
    c.refused-then-not-may_hold-2.ensures (c.may_hold-in-loop-i.ensures ∙ c.if-not-may_hold-2.true) in
    record { gives = q.0; fact = q.1.0; next_le_count = q.1.1; notes = notes-no _ _ _ _ _ _ _ _ c.refused-then-not-may_hold-2.ensures }

pub items-packed-requires : goal.items-packed-requires
items-packed-requires t c = (
  c.if-e-gt-MESSAGE_LIMIT.false,
  (
    inside-small _ _ _ _ _ _ c.entry_size-e.ensures c.if-e-gt-MESSAGE_LIMIT.false,
    (c.if-kids-gt-MESSAGE_LIMIT.false, c.if-links-gt-MESSAGE_LIMIT.false),
  ),
)

pub items-returns-then-total-gt-MESSAGE_LIMIT : goal.items-returns-then-total-gt-MESSAGE_LIMIT
items-returns-then-total-gt-MESSAGE_LIMIT t c =
    let q = turn-over _ _ _ _ _ _ _ _ _ _ _ c.loop-i.invariant.0 c.requires.1 c.loop-i-test.true
    (c.is_next.ensures ∙ c.if-not-is_next.false) _ c.entry_size-e.ensures
    c.if-e-gt-MESSAGE_LIMIT.false _ _ _ _ c.word_at-kind.ensures c.word-me.ensures refl c.inside_of-left.ensures _ c.inside-kids.ensures.gives
    c.if-kids-gt-MESSAGE_LIMIT.false
    (c.may_hold.ensures ∙ c.if-not-may_hold.false) _ c.inside-links.ensures.gives c.if-links-gt-MESSAGE_LIMIT.false
    (c.may_hold-in-loop-i.ensures ∙ c.if-not-may_hold-2.false) _ c.tree_size-total.ensures
    c.refused-then-total-gt-MESSAGE_LIMIT.ensures c.if-total-gt-MESSAGE_LIMIT.true in
    record { gives = q.0; fact = q.1.0; next_le_count = q.1.1; notes = notes-no _ _ _ _ _ _ _ _ c.refused-then-total-gt-MESSAGE_LIMIT.ensures }

pub items-loop-i-smaller : goal.items-loop-i-smaller
items-loop-i-smaller t c =
    let h = c.loop-i-test.true in let a = passed c.inside-kids.ensures.fact c.if-kids-gt-MESSAGE_LIMIT.false in
    let b = passed c.inside-links.ensures.fact c.if-links-gt-MESSAGE_LIMIT.false in let d = c.inside-links.ensures.next_le_count in
    omega (arith, h, a, b, d)

pub items-loop-i-preserved : goal.items-loop-i-preserved
items-loop-i-preserved t c =
    let t = turn_on _ _ _ _ _ _ _ _ _ _ _ c.loop-i.invariant.0 c.requires.1 c.loop-i-test.true
    (c.is_next.ensures ∙ c.if-not-is_next.false) _ c.entry_size-e.ensures
    c.if-e-gt-MESSAGE_LIMIT.false _ _ _ _ c.word_at-kind.ensures c.word-me.ensures refl c.inside_of-left.ensures _ c.inside-kids.ensures.gives
    c.if-kids-gt-MESSAGE_LIMIT.false
    (c.may_hold.ensures ∙ c.if-not-may_hold.false) _ c.inside-links.ensures.gives c.if-links-gt-MESSAGE_LIMIT.false
    (c.may_hold-in-loop-i.ensures ∙ c.if-not-may_hold-2.false) _ c.tree_size-total.ensures
    c.if-total-gt-MESSAGE_LIMIT.false c.if-k-lt-FOR_ENTRY.false (passed c.inside-kids.ensures.fact c.if-kids-gt-MESSAGE_LIMIT.false)
    (passed c.inside-links.ensures.fact c.if-links-gt-MESSAGE_LIMIT.false) c.inside-links.ensures.next_le_count in
    let w = turn-keeps _ _ _ _ _ _ _ _ _ _ _ c.loop-i.invariant.0 c.requires.1 c.loop-i-test.true
    (c.is_next.ensures ∙ c.if-not-is_next.false) _ c.entry_size-e.ensures
    c.if-e-gt-MESSAGE_LIMIT.false _ _ _ _ c.word_at-kind.ensures c.word-me.ensures refl c.inside_of-left.ensures _ c.inside-kids.ensures.gives
    c.if-kids-gt-MESSAGE_LIMIT.false
    (c.may_hold.ensures ∙ c.if-not-may_hold.false) _ c.inside-links.ensures.gives c.if-links-gt-MESSAGE_LIMIT.false _ c.packed.ensures in
    let a = passed c.inside-kids.ensures.fact c.if-kids-gt-MESSAGE_LIMIT.false in
    let b = passed c.inside-links.ensures.fact c.if-links-gt-MESSAGE_LIMIT.false in (
      t,
      (
        c.keep.auto.kept ∙ c.inside-links.auto.kept ∙ c.inside-kids.auto.kept ∙ c.loop-i.invariant.1.0,
        note-on _ _ _ _ _ _ _ _ _ _ _ _ _ _ _ c.loop-i.invariant.1.1 (c.inside-kids.ensures.notes c.if-kids-gt-MESSAGE_LIMIT.false)
            (c.inside-links.ensures.notes c.if-links-gt-MESSAGE_LIMIT.false)
            c.keep.ensures w c.loop-i.invariant.0.onward refl a b c.loop-i.invariant.1.0 c.inside-kids.auto.kept
            c.inside-links.auto.kept,
      ),
    )

pub items-returns : goal.items-returns
items-returns t c =
    let q = turn_end _ _ _ _ _ _ _ _ _ _ _ c.loop-i.invariant.0 c.requires.1 c.loop-i-test.false in
    record { gives = q.0; fact = q.1.0; next_le_count = q.1.1; notes = λ h. c.loop-i.invariant.1.1 }
